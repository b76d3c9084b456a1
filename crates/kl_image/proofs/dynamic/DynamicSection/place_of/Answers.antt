use Rattle.std.proofs.Common.{arith}
use Rattle.kl_image.proofs.SectionFacts.{place_in}
use Rattle.kl_image.proofs.dynamic.DynamicSection.place_of.Goals as goal

pub overflow_mul-result : goal.overflow_mul-result
overflow_mul-result c = let room = place_in c.args.self.now c.args.number c.requires.section c.requires.number in omega (arith, room, c.requires.section.short)

pub overflow_add-result : goal.overflow_add-result
overflow_add-result c = let room = place_in c.args.self.now c.args.number c.requires.section c.requires.number in omega (arith, room, c.requires.section.short)
