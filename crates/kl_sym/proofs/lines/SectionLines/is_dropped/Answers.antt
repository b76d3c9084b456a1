use Rattle.std.proofs.Common.{ℕ, ◌≡◌, ◌∙◌, Some, None, Option, List, refl, ap, sym}
use Rattle.std.specs.Prelude.{is_some}
use Rattle.kl_model.specs.Lists.{among}
use Rattle.kl_names.specs.Numbers.{place_in}
use Rattle.kl_names.proofs.NameLists.{found-among, missing-among}
use Rattle.kl_sym.proofs.lines.SectionLines.is_dropped.Goals as goal

-- a name that has a number is one of the names
found : (names : List (List ℕ)) (q : List ℕ) → is_some (place_in names q) ≡ among names q
found names q = go (place_in names q) refl
  where
    go : (o : Option ℕ) → place_in names q ≡ o → is_some o ≡ among names q
    go None e = sym (missing-among q 0 names e)
    go (Some n) e = sym (found-among q 0 names n e)

pub returns : goal.returns
returns c = λ kit lines. c.is_some.ensures ∙ (ap is_some c.find.ensures ∙ (found c.args.self.now.drops c.args.name.now ∙ lines.drops c.args.name.now))
