use Rattle.store_thread.proofs.news.declare_one.Goals as goal

pub declare-requires : goal.declare-requires
declare-requires c = record { name = c.as_str-name.ensures.name; ranges = c.requires }
