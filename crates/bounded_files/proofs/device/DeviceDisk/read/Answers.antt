use Rattle.bounded_files.proofs.device.DeviceDisk.read.Goals as goal

pub returns : goal.returns
returns g c = c.read_opened.ensures c.args.path.now
