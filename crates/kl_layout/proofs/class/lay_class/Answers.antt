use Rattle.std.proofs.Common.{ℕ, ◌≡◌, ◌+◌, ◌%◌, ◌^◌, ◌<◌, ◌∙◌, List, length, set, ap, sym, subst, arith}
use Rattle.std.specs.Prelude.{All, slice_get}
use Rattle.kl_model.specs.Areas.{class_number}
use Rattle.kl_model.specs.Laid.{reach}
use Rattle.kl_model.specs.Placed.{extent, first_stop}
use Rattle.kl_layout.specs.Once.{AreDistinct}
use Rattle.kl_layout.specs.Spreads.{spread_numbers}
use Rattle.kl_layout.specs.Stops.{IsPart, IsStep, area_or, joined, listed, listed_line}
use Rattle.kl_layout.proofs.Areas.{own_low}
use Rattle.kl_layout.proofs.LayMore.{get_set_other, get_set_same}
use Rattle.kl_layout.proofs.SpreadNumbers.{numbers_apart, numbers_below}
use Rattle.kl_layout.proofs.class.lay_class.Goals as goal

pub line_start-start-requires-clause-parts : goal.line_start-start-requires-clause-parts
line_start-start-requires-clause-parts c =
    let numbers : c.deref.result.now ≡ spread_numbers c.args.kit.now c.args.class = c.deref.ensures.value ∙ c.in_ok-numbers.ensures in
    subst (λ (l : List ℕ). All (λ x. IsStep x.align) (joined c.args.lists.now l)) (sym numbers) (λ k d l. (c.requires.parts k d l).align)

pub line_start-start-requires-clause-known : goal.line_start-start-requires-clause-known
line_start-start-requires-clause-known c =
    let numbers : c.deref.result.now ≡ spread_numbers c.args.kit.now c.args.class = c.deref.ensures.value ∙ c.in_ok-numbers.ensures in
    rw (numbers, c.requires.lists) (numbers_below c.args.kit.now c.args.class)

pub lay_spreads-place-requires-clause-parts : goal.lay_spreads-place-requires-clause-parts
lay_spreads-place-requires-clause-parts c =
    let numbers : c.deref-2.result.now ≡ spread_numbers c.args.kit.now c.args.class = c.deref-2.ensures.value ∙ c.in_ok-numbers.ensures in
    subst (λ (l : List ℕ). All (IsPart (length c.args.addresses.now)) (joined c.args.lists.now l)) (sym numbers) c.requires.parts

pub lay_spreads-place-requires-clause-known : goal.lay_spreads-place-requires-clause-known
lay_spreads-place-requires-clause-known c =
    let numbers : c.deref-2.result.now ≡ spread_numbers c.args.kit.now c.args.class = c.deref-2.ensures.value ∙ c.in_ok-numbers.ensures in
    rw (numbers, c.requires.lists) (numbers_below c.args.kit.now c.args.class)

pub lay_spreads-place-requires-clause-apart : goal.lay_spreads-place-requires-clause-apart
lay_spreads-place-requires-clause-apart c =
    let numbers : c.deref-2.result.now ≡ spread_numbers c.args.kit.now c.args.class = c.deref-2.ensures.value ∙ c.in_ok-numbers.ensures in
    subst AreDistinct (sym numbers) (numbers_apart c.args.kit.now c.args.class)

pub returns-clause-areas : goal.returns-clause-areas
returns-clause-areas c =
    let numbers : c.deref-2.result.now ≡ spread_numbers c.args.kit.now c.args.class = c.deref-2.ensures.value ∙ c.in_ok-numbers.ensures in
    let from = c.args.kit.now.base + c.args.from in
    λ n l other.
    ap (λ m. slice_get (set c.lay_spreads-place.new.areas m (record { start = c.line_start-start.result; end = (c.args.kit.now.base + c.lay_spreads-place.result) % 2 ^ 64 })) n) c.class_number.ensures
    ∙ (get_set_other c.lay_spreads-place.new.areas (class_number c.args.class) n _ other
    ∙ (c.lay_spreads-place.ensures.areas n l ∙ ap (λ ns. area_or n from (listed c.args.lists.now ns) (slice_get c.args.areas.now n)) numbers))

pub returns-clause-class : goal.returns-clause-class
returns-clause-class c =
    let lists = c.args.lists.now in
    let line = listed_line c.args.kit.now lists c.args.class in
    let from = c.args.kit.now.base + c.args.from in
    let numbers : c.deref.result.now ≡ spread_numbers c.args.kit.now c.args.class = c.deref.ensures.value ∙ c.in_ok-numbers.ensures in
    let again : c.deref-2.result.now ≡ spread_numbers c.args.kit.now c.args.class = c.deref-2.ensures.value ∙ c.in_ok-numbers.ensures in
    let start : c.line_start-start.result ≡ first_stop from line % 2 ^ 64 = c.line_start-start.ensures ∙ ap (λ ns. first_stop from (joined lists ns) % 2 ^ 64) numbers in
    let ended : c.args.kit.now.base + c.lay_spreads-place.result ≡ reach from line = c.lay_spreads-place.ensures.reach ∙ ap (λ ns. reach from (joined lists ns)) again in
    let below = own_low c.args.class in
    let known : class_number c.args.class < length c.lay_spreads-place.new.areas = omega (arith, below, c.lay_spreads-place.ensures.areas_count, c.requires.areas, c.requires.lists) in
    ap (λ m. slice_get (set c.lay_spreads-place.new.areas m (record { start = c.line_start-start.result; end = (c.args.kit.now.base + c.lay_spreads-place.result) % 2 ^ 64 })) (class_number c.args.class)) c.class_number.ensures
    ∙ (ap (λ s. slice_get (set c.lay_spreads-place.new.areas (class_number c.args.class) (record { start = s; end = (c.args.kit.now.base + c.lay_spreads-place.result) % 2 ^ 64 })) (class_number c.args.class)) start
    ∙ (ap (λ e. slice_get (set c.lay_spreads-place.new.areas (class_number c.args.class) (record { start = first_stop from line % 2 ^ 64; end = e % 2 ^ 64 })) (class_number c.args.class)) ended
    ∙ get_set_same c.lay_spreads-place.new.areas (class_number c.args.class) (extent from line) known))
