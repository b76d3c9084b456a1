-- The files of a batch take their places, one after another.
use Rattle.std.proofs.Common.{◌≡◌, ◌≢◌, inl, inr, ℕ, suc, ◌+◌, ◌<◌, ◌≤◌, Bool, List, [], ◌∷◌, ◌++◌, refl, sym, ap, ◌∙◌, subst, get_or, add-one, take-append-drop, drop-cons}
use Rattle.std.specs.Prelude.{Option, Some, IsSome, take, drop, length}
use Rattle.std.proofs.lemmas.List.{take_more, take_all}
use Rattle.kl_store.specs.Disk.{Disk, names_now, joined, AreMoves}
use Rattle.kl_store.specs.Meaning.{Meaning}
use Rattle.kl_store.specs.Calls.{MakesIf}
use Rattle.kl_store.proofs.Disks.{moves_append, names_now-joined}
use Rattle.kl_store.proofs.Moments.{told_joined, is_made}
use Rattle.std.specs.FinMap.{get}
use Rattle.kl_store.specs.Names.{Names, Rename, carried_out}
use Rattle.kl_intent.specs.declared.intent.Entry.{Entry}
use Rattle.kl_install.specs.After.{temp_of}
use Rattle.kl_install.specs.Batch.{Each, IsAway, AreApart}
use Rattle.kl_install.specs.Moving.{IsPlaced, IsWaiting, IsMoving, AreMoved, IsPartWay, AllWait}
use Rattle.kl_install.proofs.Recovered.{each_map, each_all, each_both, renamed_other, renamed_to, renamed_from}

pub each_append : (P : Entry → Type 0) (xs ys : List Entry) → Each P xs → Each P ys → Each P (xs ++ ys)
each_append P [] ys h k = k
each_append P (x ∷ xs) ys h k = (h.0, each_append P xs ys h.1 k)

pub each_front : (P : Entry → Type 0) (xs ys : List Entry) → Each P (xs ++ ys) → Each P xs
each_front P [] ys h = tt
each_front P (x ∷ xs) ys h = (h.0, each_front P xs ys h.1)

pub each_back : (P : Entry → Type 0) (xs ys : List Entry) → Each P (xs ++ ys) → Each P ys
each_back P [] ys h = h
each_back P (x ∷ xs) ys h = each_back P xs ys h.1

-- no name of the one is a name of the other
pub record IsClear (e f : Entry) : Type 0 where
  pub targets : f.target ≢ e.target
  pub target_temp : f.target ≢ (temp_of e)
  pub temp_target : (temp_of f) ≢ e.target
  pub temps : (temp_of f) ≢ (temp_of e)

pub record IsAmong (done : List Entry) (e : Entry) (rest : List Entry) : Type 0 where
  pub own : e.target ≢ (temp_of e)
  pub before : Each (IsClear e) done
  pub after : Each (IsClear e) rest

turned : (a b : List ℕ) → a ≢ b → b ≢ a
turned a b p e = p (sym e)

pub is_among : (done : List Entry) (e : Entry) (rest : List Entry) → AreApart (done ++ e ∷ rest) → IsAmong done e rest
is_among [] e rest apart = record {
  own = apart.0;
  before = tt;
  after = each_map _ _ rest (λ f h. record { targets = turned _ _ h.0.0; target_temp = turned _ _ h.1.0; temp_target = turned _ _ h.0.1; temps = turned _ _ h.1.1 }) (each_both _ _ rest apart.1 apart.2);
}
is_among (f ∷ done) e rest apart =
    let more = is_among done e rest apart.3 in
    let target_away = (each_back _ done (e ∷ rest) apart.1).0 in
    let temp_away = (each_back _ done (e ∷ rest) apart.2).0 in
    record {
      own = more.own;
      before = (record { targets = target_away.0; target_temp = target_away.1; temp_target = temp_away.0; temps = temp_away.1 }, more.before);
      after = more.after;
    }

-- one file more has its place
pub part_way_on : (m x : Names) (done : List Entry) (e : Entry) (rest : List Entry) → AreApart (done ++ e ∷ rest) → IsPartWay done (e ∷ rest) m x → IsPartWay (done ++ e ∷ []) rest m (carried_out (Rename (temp_of e) e.target) x)
part_way_on m x done e rest apart way =
    let among = is_among done e rest apart in
    let other : (n : List ℕ) → n ≢ e.target → n ≢ (temp_of e) → get (carried_out (Rename (temp_of e) e.target) x) n ≡ get x n = λ n p q. renamed_other x (temp_of e) e.target n q p in
    record {
      done = each_append _ done (e ∷ []) (each_map _ _ done (λ f h. (other f.target h.0.targets h.0.target_temp ∙ h.1.0, other (temp_of f) h.0.temp_target h.0.temps ∙ h.1.1)) (each_both _ _ done among.before way.done))
          ((renamed_to x (temp_of e) e.target ∙ way.left.0.1, renamed_from x (temp_of e) e.target (turned _ _ among.own)), tt);
      left = each_map _ _ rest (λ f h. (other f.target h.0.targets h.0.target_temp ∙ h.1.0, other (temp_of f) h.0.temp_target h.0.temps ∙ h.1.1)) (each_both _ _ rest among.after way.left.1);
      others = λ n away.
          let front = each_front _ (done ++ e ∷ []) rest away in
          let here = each_back _ done (e ∷ []) front in
          other n here.0.0 here.0.1 ∙ way.others n (each_append _ done (e ∷ rest) (each_front _ done (e ∷ []) front) (here.0, each_back _ (done ++ e ∷ []) rest away));
    }

pub part_way_moving : (m x : Names) (done rest : List Entry) → IsPartWay done rest m x → IsMoving (done ++ rest) m x
part_way_moving m x done rest way = record {
  each = each_append _ done rest (each_map _ _ done (λ e h. inl h) way.done) (each_map _ _ rest (λ e h. inr h) way.left);
  others = way.others;
}

-- the state before the entry of that number
pub record IsAtEntry (disk : Option Disk) (m : Names) (es : List Entry) (i : ℕ) : Type 0 where
  pub now : Disk
  pub told : disk ≡ Some now
  pub moves : AreMoves now.changes
  pub way : IsPartWay (take i es) (drop i es) m (names_now now)

-- a list round its element of that number
pub record Split (es : List Entry) (i : ℕ) (e : Entry) : Type 0 where
  pub front : take (i + 1) es ≡ take i es ++ e ∷ []
  pub back : drop i es ≡ e ∷ drop (i + 1) es
  pub whole : take i es ++ e ∷ drop (i + 1) es ≡ es

pub split : (es : List Entry) (i : ℕ) (e : Entry) → i < length es → e ≡ get_or es i e → Split es i e
split es i e less is =
    let back : drop i es ≡ e ∷ drop (i + 1) es = rw (add-one) (drop-cons es i e less ∙ ap (λ (f : Entry). f ∷ drop (suc i) es) (sym is)) in
    record {
      front = take_more es i e less ∙ ap (λ (f : Entry). take i es ++ f ∷ []) (sym is);
      back = back;
      whole = ap (λ (l : List Entry). take i es ++ l) (sym back) ∙ take-append-drop i es;
    }

pub entry_apart : (es : List Entry) (i : ℕ) (e : Entry) → Split es i e → AreApart es → (temp_of e) ≢ e.target
entry_apart es i e s apart = turned _ _ (is_among (take i es) e (drop (i + 1) es) (subst AreApart (sym s.whole) apart)).own

-- the step of the loop, in the names
pub entry_way : (m x : Names) (es : List Entry) (i : ℕ) (e : Entry) → Split es i e → AreApart es → IsPartWay (take i es) (drop i es) m x → IsPartWay (take (i + 1) es) (drop (i + 1) es) m (carried_out (Rename (temp_of e) e.target) x)
entry_way m x es i e s apart way =
    subst (λ (l : List Entry). IsPartWay l (drop (i + 1) es) m (carried_out (Rename (temp_of e) e.target) x)) (sym s.front)
    (part_way_on m x (take i es) e (drop (i + 1) es) (subst AreApart (sym s.whole) apart) (subst (λ (l : List Entry). IsPartWay (take i es) l m x) s.back way))

pub way_moving : (m x : Names) (es : List Entry) (i : ℕ) → IsPartWay (take i es) (drop i es) m x → IsMoving es m x
way_moving m x es i way = subst (λ (l : List Entry). IsMoving l m x) (take-append-drop i es) (part_way_moving m x (take i es) (drop i es) way)

-- its temporary is there
pub entry_waits : (m x : Names) (es : List Entry) (i : ℕ) (e : Entry) → Split es i e → AllWait es m → IsPartWay (take i es) (drop i es) m x → IsSome (get x (temp_of e))
entry_waits m x es i e s wait way =
    let here = (each_back _ (take i es) (e ∷ drop (i + 1) es) (subst (λ (l : List Entry). AllWait l m) (sym s.whole) wait)).0 in
    let same = (subst (λ (l : List Entry). Each (IsWaiting m x) l) s.back way.left).0.1 in
    subst IsSome (sym same) here

pub at_next : (a b : Meaning) (m : Names) (es : List Entry) (i : ℕ) (e : Entry) (was : Bool) → Split es i e → AreApart es → AllWait es m → IsAtEntry a.disk m es i → MakesIf (Rename (temp_of e) e.target) a b was
    → IsAtEntry b.disk m es (i + 1)
at_next a b m es i e was s apart wait at moved = record {
  now = joined (Rename (temp_of e) e.target) at.now;
  told = told_joined at.now (is_made at.now was at.told (entry_waits m (names_now at.now) es i e s wait at.way) moved) at.told;
  moves = moves_append at.now.changes (Rename (temp_of e) e.target) at.moves tt;
  way = subst (λ (x : Names). IsPartWay (take (i + 1) es) (drop (i + 1) es) m x) (sym (names_now-joined at.now (Rename (temp_of e) e.target))) (entry_way m (names_now at.now) es i e s apart at.way);
}

-- before the first entry
pub at_first : (disk : Option Disk) (d : Disk) (es : List Entry) → disk ≡ Some d → AreMoves d.changes → IsAtEntry disk (names_now d) es 0
at_first disk d es told moves = record { now = d; told = told; moves = moves; way = record { done = tt; left = each_all _ es (λ e. (refl, refl)); others = λ n away. refl } }

-- behind the last
pub at_end : (m x : Names) (es : List Entry) (i : ℕ) → length es ≤ i → IsPartWay (take i es) (drop i es) m x → AreMoved es m x
at_end m x es i all way = record {
  each = subst (λ (l : List Entry). Each (IsPlaced m x) l) (take_all i es all) way.done;
  others = λ n away. way.others n (subst (λ (l : List Entry). IsAway n l) (sym (take-append-drop i es)) away);
}
