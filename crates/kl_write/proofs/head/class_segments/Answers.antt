use Rattle.kl_base.specs.declared.class.Class.TheVariants.{Text, Rodata, Rwdata, Bss}
use Rattle.kl_write.proofs.head.class_segments.Goals as goal

pub push_segment-requires-clause-area : goal.push_segment-requires-clause-area
push_segment-requires-clause-area c = c.requires.areas Text

pub push_segment-requires-2-clause-area : goal.push_segment-requires-2-clause-area
push_segment-requires-2-clause-area c = c.requires.areas Rodata

pub push_segment-requires-3-clause-area : goal.push_segment-requires-3-clause-area
push_segment-requires-3-clause-area c = c.requires.areas Rwdata

pub push_segment-requires-4-clause-area : goal.push_segment-requires-4-clause-area
push_segment-requires-4-clause-area c = c.requires.areas Bss
