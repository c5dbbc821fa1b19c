use Rattle.bounded_files.proofs.device.DeviceDisk.keep_regular.Goals as goal

pub returns : goal.returns
returns g c = c.keep_opened.ensures c.args.path.now
