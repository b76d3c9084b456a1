use Rattle.kl_base.specs.declared.class.Class.TheVariants.{Text, Rodata, Rwdata}
use Rattle.kl_write.proofs.size.file_stop.Goals as goal

pub class_stop-requires : goal.class_stop-requires
class_stop-requires c = record { area = c.requires.areas Text }

pub class_stop-requires-2 : goal.class_stop-requires-2
class_stop-requires-2 c = record { area = c.requires.areas Rodata }

pub class_stop-requires-3 : goal.class_stop-requires-3
class_stop-requires-3 c = record { area = c.requires.areas Rwdata }
