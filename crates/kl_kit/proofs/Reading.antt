-- The lines of a text, one after the other.
use Rattle.std.proofs.Common.{◌≡◌, ℕ, zero, suc, ◌+◌, ◌-◌, ◌<◌, ◌≤◌, List, [], ◌∷◌, ◌++◌, length, get_or, take, drop, refl, sym, ap, subst, ◌∙◌, arith, true}
use Rattle.std.specs.Prelude.{Result, Ok, Err, OnOk, Some, ◌==◌, slice_get, map, option_to_list}
use Rattle.std.specs.Result.{IfErr, IsErrAnd}
use Rattle.std.proofs.lemmas.Bool.{eqb-true}
use Rattle.std.proofs.lemmas.List.{take_all}
use Rattle.kl_text.specs.Lines.{lines, words}
use Rattle.kl_model.specs.Lists.{each_from}
use Rattle.kl_model.proofs.Each.{each_from_more, each_from_all, each_first, head_left}
use Rattle.kl_kit.specs.KitLines.{KitLine, line_of, said}
use Rattle.kl_kit.specs.KitTexts.{said_faults}
use Rattle.kl_kit.specs.Readers.{IsFirst}
use Rattle.kl_kit.specs.TextFaults.{SaidFaults, bytes_faults, text_faults}
use Rattle.kl_kit.specs.declared.fault.KitFault.{KitFault}
use Rattle.kl_kit.specs.declared.fault.KitFault.TheVariants as fault
use Rattle.kl_kit.specs.declared.fault.Needed.{Needed}
use Rattle.kl_kit.specs.declared.fault.KitError.{KitError}
use Rattle.kl_kit.specs.declared.fault.KitError.TheVariants as error

-- the faults of a line of a text
abbrev pub faults_by : SaidFaults → List (List ℕ) → ℕ → List ℕ → List KitFault
faults_by faults ls n l = bytes_faults faults (said (take (n - 1) ls)) n l

abbrev pub faults_at : List (List ℕ) → ℕ → List ℕ → List KitFault
faults_at ls n l = faults_by said_faults ls n l

-- the line at which the rest of a list begins
pub record IsNext (ls : List (List ℕ)) (i : ℕ) (l : List ℕ) (more : List (List ℕ)) : Type 0 where
  pub within : i < length ls
  pub here : get_or ls i [] ≡ l
  pub behind : more ≡ drop (suc i) ls

pub next_at : (ls : List (List ℕ)) (i : ℕ) (l : List ℕ) (more : List (List ℕ)) → l ∷ more ≡ drop i ls → IsNext ls i l more
next_at [] zero l more e = cc
next_at [] (suc i) l more e = cc
next_at (x ∷ ls) zero l more e = record { within = omega arith; here = (let p : x ∷ ls ≡ l ∷ more = sym e in cc); behind = (let p : l ∷ more ≡ x ∷ ls = e in cc) }
next_at (x ∷ ls) (suc i) l more e =
    let n = next_at ls i l more e in
    record { within = (let w = n.within in omega arith); here = n.here; behind = n.behind }

-- the faults of the line at place i
faults_here : (faults : SaidFaults) (ls : List (List ℕ)) (i : ℕ) (l : List ℕ) (more : List (List ℕ)) → IsNext ls i l more
    → faults_by faults ls (1 + i) (get_or ls i []) ≡ bytes_faults faults (said (take i ls)) (i + 1) l
faults_here faults ls i l more n =
    let place : 1 + i - 1 ≡ i = omega arith in
    let number : 1 + i ≡ i + 1 = omega arith in
    rw (n.here, place, number) refl

pub sound_more : (faults : SaidFaults) (ls : List (List ℕ)) (i : ℕ) (l : List ℕ) (more : List (List ℕ)) → IsNext ls i l more → each_from 1 (faults_by faults ls) (take i ls) ≡ []
    → bytes_faults faults (said (take i ls)) (i + 1) l ≡ [] → each_from 1 (faults_by faults ls) (take (i + 1) ls) ≡ []
sound_more faults ls i l more n before here =
    each_from_more 1 (faults_by faults ls) ls i [] n.within ∙ rw (before, faults_here faults ls i l more n) here

pub said_more : (ls : List (List ℕ)) (i : ℕ) (l : List ℕ) (more : List (List ℕ)) → IsNext ls i l more
    → said (take (i + 1) ls) ≡ said (take i ls) ++ option_to_list (line_of (i + 1) (words l))
said_more ls i l more n =
    let number : 1 + i ≡ i + 1 = omega arith in
    each_from_more 1 (λ k x. option_to_list (line_of k (words x))) ls i [] n.within ∙ rw (n.here, number) refl

-- the first fault of a line is that of the text, where those before have none
pub line_first : (faults : SaidFaults) (last : List KitLine → List KitFault) (text : List ℕ) (i : ℕ) (l : List ℕ) (more : List (List ℕ)) (e : KitError) → IsNext (lines text) i l more
    → each_from 1 (faults_by faults (lines text)) (take i (lines text)) ≡ [] → IsFirst (bytes_faults faults (said (take i (lines text))) (i + 1) l) e → IsFirst (text_faults faults last text) e
line_first faults last text i l more error.NoMemory n before first = tt
line_first faults last text i l more (error.Fault f) n before first =
    let ls = lines text in
    let here : slice_get (faults_by faults ls (1 + i) (get_or ls i [])) 0 ≡ Some f = ap (λ (x : List KitFault). slice_get x 0) (faults_here faults ls i l more n) ∙ first in
    head_left (each_from 1 (faults_by faults ls) ls) (last (said ls)) f (each_first 1 (faults_by faults ls) ls i [] f n.within before here)

-- behind the last line
pub all_read : (text : List ℕ) (i : ℕ) → [] ≡ drop i (lines text) → length (lines text) ≤ i
all_read text i e = go (lines text) i e
  where
    go : (ls : List (List ℕ)) (i : ℕ) → [] ≡ drop i ls → length ls ≤ i
    go [] i e = omega arith
    go (x ∷ ls) zero e = cc
    go (x ∷ ls) (suc i) e = let h = go ls i e in omega arith

pub faults_end : (faults : SaidFaults) (last : List KitLine → List KitFault) (text : List ℕ) (i : ℕ) → length (lines text) ≤ i → each_from 1 (faults_by faults (lines text)) (take i (lines text)) ≡ []
    → text_faults faults last text ≡ last (said (lines text))
faults_end faults last text i h before =
    let ls = lines text in
    ap (λ (x : List KitFault). x ++ last (said ls)) (sym (each_from_all 1 (faults_by faults ls) ls i h) ∙ before)

-- behind the last line all lines are those so far
pub all_said : (text : List ℕ) (i : ℕ) → length (lines text) ≤ i → said (take i (lines text)) ≡ said (lines text)
all_said text i h = ap said (take_all i (lines text) h)

pub empty_is : (xs : List ℕ) → true ≡ (length xs == 0) → xs ≡ []
empty_is [] e = refl
empty_is (x ∷ xs) e = absurd (let h = eqb-true (length (x ∷ xs)) 0 (sym e) in omega arith)

-- an error that is handed on
pub handed_on : {T : Type 0} (faults : List KitFault) (e : KitError) (result : Result T KitError) → IsErrAnd result (λ x. x ≡ e) → IsFirst faults e → IfErr result (IsFirst faults)
handed_on faults e (Ok x) is first = tt
handed_on faults e (Err y) is first = subst (IsFirst faults) (sym is) first

pub none_missing : {T : Type 0} (xs : List Needed) (result : Result T KitError) → OnOk result (xs ≡ []) → OnOk result (map fault.Missing xs ≡ [])
none_missing xs (Ok x) e = ap (map fault.Missing) e
none_missing xs (Err y) e = tt
