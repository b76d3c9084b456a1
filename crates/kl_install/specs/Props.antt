-- What an installer keeps of its entries holds in one way only, as a fact that a type keeps has to.
use Rattle.std.specs.Prelude.{ℕ, List, [], ◌∷◌, ◌++◌, Option, Some, None}
use Rattle.std.specs.List.{AllByRecursion, AllByRecursion-prop}
use Rattle.std.specs.Coded.{×_prop, Unit-prop}
use Rattle.std.proofs.Props.{props}
use Rattle.kl_intent.specs.declared.intent.Entry.{Entry}
use Rattle.kl_intent.specs.IntentText.{IsDigest, IsOld, IsEntry, AreDistinct}

IsDigest-prop : (digest : List ℕ) → IsProp (IsDigest digest)
IsDigest-prop digest = Prim.hlevel props

IsOld-prop : (old : Option (List ℕ)) → IsProp (IsOld old)
IsOld-prop None = Unit-prop
IsOld-prop (Some digest) = IsDigest-prop digest

IsEntry-prop : (e : Entry) → IsProp (IsEntry e)
IsEntry-prop e = Prim.hlevel (props, IsOld-prop, IsDigest-prop)

pub each-prop : (es : List Entry) → IsProp (AllByRecursion IsEntry es)
each-prop es = AllByRecursion-prop IsEntry IsEntry-prop es

pub distinct-prop : (before es : List Entry) → IsProp (AreDistinct before es)
distinct-prop before [] = Unit-prop
distinct-prop before (e ∷ es) = ×_prop (Prim.hlevel props) (distinct-prop (before ++ e ∷ []) es)
