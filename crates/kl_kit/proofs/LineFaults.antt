-- The first fault of a line that says something, and what is read of one without a fault.
use Rattle.std.proofs.Common.{◌≡◌, ℕ, Bool, true, false, not, ◌&&◌, cond, List, [], ◌∷◌, ◌++◌, refl, sym, ap, subst, ◌∙◌, Option, append_assoc}
use Rattle.std.specs.Prelude.{Result, Ok, Err, Some, None, slice_get, flat_map, is_none}
use Rattle.std.specs.Result.{IfErr, IsErrAnd}
use Rattle.std.specs.Option.{option_and_then, option_map_or, option_map}
use Rattle.std.specs.List.{cons_option}
use Rattle.std.proofs.lemmas.List.{append-nil}
use Rattle.std.proofs.lemmas.List.Elements.{filter_map-append}
use Rattle.std.proofs.lemmas.Grind.{flat_map-append}
use Rattle.kl_model.proofs.Each.{head_left}
use Rattle.kl_model.specs.Lists.{only_if}
use Rattle.kl_model.specs.Kits.{is_empty}
use Rattle.kl_model.specs.declared.kit.KitKind.{KitKind}
use Rattle.kl_kit.specs.Forms.{kind_of}
use Rattle.kl_kit.specs.Keywords.{keyword_of, has_lines}
use Rattle.kl_kit.specs.Keys.{comes_again, keys_of, line_keys}
use Rattle.kl_kit.specs.KitLines.{KitLine, line_statement, statement_of, statements, word_at}
use Rattle.kl_kit.specs.KitTexts.{is_in_place, is_kind, is_one_too_many, kind_said, one, output_faults, place_faults, said_faults, statement_faults}
use Rattle.kl_kit.specs.Readers.{HasKeys, HasRead, IsFirst, also, parts_of, stands_at}
use Rattle.kl_kit.specs.declared.fault.KitError.{KitError}
use Rattle.kl_kit.specs.declared.fault.KitError.TheVariants as error
use Rattle.kl_kit.specs.declared.fault.KitFault.{KitFault}
use Rattle.kl_kit.specs.declared.fault.KitFault.TheVariants as fault
use Rattle.kl_kit.specs.declared.keyword.Keyword.{Keyword}
use Rattle.kl_kit.specs.declared.keyword.Keyword.TheVariants as keyword
use Rattle.kl_kit.specs.declared.parts.Parts.{Parts}
use Rattle.kl_kit.specs.declared.read.Reader.{Reader}
use Rattle.kl_kit.specs.declared.statement.Statement.{Statement}
use Rattle.kl_kit.specs.declared.statement.Statement.TheVariants as says
use Rattle.kl_kit.proofs.Said.{also-parts}

pub none_first : {X : Type 0} (xs : List X) → None ≡ slice_get xs 0 → xs ≡ []
none_first [] e = refl
none_first (x ∷ xs) e = cc

-- what a line says whose keyword is known and whose words are in their forms, behind others
pub record IsSaid (before : List KitLine) (l : KitLine) (k : Keyword) (s : Statement) : Type 0 where
  pub keyword : keyword_of l.keyword ≡ Some k
  pub statement : statement_of k l.number l.words ≡ Some s
  pub place : place_faults (is_in_place before k) l k ≡ []

faults_are : (before : List KitLine) (l : KitLine) (k : Keyword) (s : Statement) → IsSaid before l k s → said_faults before l ≡ statement_faults before l k s
faults_are before l k s is =
    ap (λ (o : Option Keyword). option_map_or (λ x. place_faults (is_in_place before x) l x ++ option_map_or (statement_faults before l x) (statement_of x l.number l.words) (fault.Value l.number ∷ [])) o (fault.Keyword l.number ∷ [])) is.keyword
    ∙ (ap (λ (xs : List KitFault). xs ++ option_map_or (statement_faults before l k) (statement_of k l.number l.words) (fault.Value l.number ∷ [])) is.place
    ∙ ap (λ (o : Option Statement). option_map_or (statement_faults before l k) o (fault.Value l.number ∷ [])) is.statement)

-- where a line stands, by the kind that is known
place_is : (r : Reader) (before : List KitLine) (k : Keyword) → HasRead r before → is_in_place before k ≡ stands_at r.parts.kind k
place_is r before k h = go (is_empty before) r.parts.kind h.first (ap (λ (p : Parts). p.kind) h.parts)
  where
    go : (t : Bool) (o : Option KitKind) → t ≡ is_none o → o ≡ one kind_said (statements before)
        → cond t (is_kind k) (not (is_kind k) && option_map_or (λ x. has_lines x k) (one kind_said (statements before)) false) ≡ stands_at o k
    go true None e p = refl
    go true (Some kind) e p = cc
    go false None e p = cc
    go false (Some kind) e p = ap (λ (q : Option KitKind). not (is_kind k) && option_map_or (λ x. has_lines x k) q false) (sym p)

pub said_at : (r : Reader) (before : List KitLine) (l : KitLine) (k : Keyword) (s : Statement) → HasRead r before → keyword_of l.keyword ≡ Some k → statement_of k l.number l.words ≡ Some s
    → None ≡ slice_get (place_faults (stands_at r.parts.kind k) l k) 0 → IsSaid before l k s
said_at r before l k s h e f place = record {
  keyword = e;
  statement = f;
  place = ap (λ t. place_faults t l k) (place_is r before k h) ∙ none_first (place_faults (stands_at r.parts.kind k) l k) place;
}

output_is : (r : Reader) (before : List KitLine) (number : ℕ) (s : Statement) → HasRead r before → output_faults (one kind_said (statements before)) number s ≡ output_faults r.parts.kind number s
output_is r before number s h = ap (λ (p : Parts). output_faults p.kind number s) (sym h.parts)

-- what is told behind the faults of the output's name
abbrev said_again : List KitLine → KitLine → Keyword → Statement → List KitFault
said_again before l k s =
    only_if (comes_again (flat_map line_keys before) (keys_of k l.words)) (fault.Twice l.number) ++ only_if (is_one_too_many (statements before) s) (fault.Limit l.number)

grouped : (before : List KitLine) (l : KitLine) (k : Keyword) (s : Statement) → statement_faults before l k s ≡ output_faults (one kind_said (statements before)) l.number s ++ said_again before l k s
grouped before l k s =
    append_assoc (output_faults (one kind_said (statements before)) l.number s) (only_if (comes_again (flat_map line_keys before) (keys_of k l.words)) (fault.Twice l.number))
    (only_if (is_one_too_many (statements before) s) (fault.Limit l.number))

pub output_first : (r : Reader) (before : List KitLine) (l : KitLine) (k : Keyword) (s : Statement) (f : KitFault) → HasRead r before → IsSaid before l k s
    → Some f ≡ slice_get (output_faults r.parts.kind l.number s) 0 → slice_get (said_faults before l) 0 ≡ Some f
output_first r before l k s f h is first =
    ap (λ (xs : List KitFault). slice_get xs 0) (faults_are before l k s is ∙ grouped before l k s)
    ∙ head_left (output_faults (one kind_said (statements before)) l.number s) (said_again before l k s) f (ap (λ (xs : List KitFault). slice_get xs 0) (output_is r before l.number s h) ∙ sym first)

-- no fault of the output's name
pub record IsSound (r : Reader) (before : List KitLine) (l : KitLine) (k : Keyword) (s : Statement) : Type 0 where
  pub read : HasRead r before
  pub said : IsSaid before l k s
  pub output : None ≡ slice_get (output_faults r.parts.kind l.number s) 0

no_output : (r : Reader) (before : List KitLine) (l : KitLine) (k : Keyword) (s : Statement) → IsSound r before l k s → output_faults (one kind_said (statements before)) l.number s ≡ []
no_output r before l k s is = output_is r before l.number s is.read ∙ none_first (output_faults r.parts.kind l.number s) is.output

pub twice_first : (r : Reader) (before : List KitLine) (l : KitLine) (k : Keyword) (s : Statement) → IsSound r before l k s
    → comes_again (flat_map line_keys before) (keys_of k l.words) ≡ true → slice_get (said_faults before l) 0 ≡ Some (fault.Twice l.number)
twice_first r before l k s is again =
    ap (λ (xs : List KitFault). slice_get xs 0) (faults_are before l k s is.said) ∙ rw (no_output r before l k s is, again) refl

pub limit_first : (r : Reader) (before : List KitLine) (l : KitLine) (k : Keyword) (s : Statement) → IsSound r before l k s
    → comes_again (flat_map line_keys before) (keys_of k l.words) ≡ false → is_one_too_many (statements before) s ≡ true → slice_get (said_faults before l) 0 ≡ Some (fault.Limit l.number)
limit_first r before l k s is fresh full =
    ap (λ (xs : List KitFault). slice_get xs 0) (faults_are before l k s is.said) ∙ rw (no_output r before l k s is, fresh, full) refl

pub none_said : (r : Reader) (before : List KitLine) (l : KitLine) (k : Keyword) (s : Statement) → IsSound r before l k s
    → comes_again (flat_map line_keys before) (keys_of k l.words) ≡ false → is_one_too_many (statements before) s ≡ false → said_faults before l ≡ []
none_said r before l k s is fresh room =
    faults_are before l k s is.said ∙ rw (no_output r before l k s is, fresh, room) refl

-- WHAT IS READ of a line without a fault
keys_are : (l : KitLine) (k : Keyword) → keyword_of l.keyword ≡ Some k → line_keys l ≡ keys_of k l.words
keys_are l k e = ap (λ (o : Option Keyword). option_map_or (λ x. keys_of x l.words) o []) e

statements_more : (before : List KitLine) (l : KitLine) (k : Keyword) (s : Statement) → IsSaid before l k s → statements (before ++ l ∷ []) ≡ statements before ++ s ∷ []
statements_more before l k s is =
    let this : line_statement l ≡ Some s = ap (λ (o : Option Keyword). option_and_then (λ x. statement_of x l.number l.words) o) is.keyword ∙ is.statement in
    filter_map-append line_statement before (l ∷ []) ∙ ap (λ (o : Option Statement). statements before ++ cons_option o []) this

kind_stays : (p : Parts) (s : Statement) → is_none p.kind ≡ false → is_none (also p s).kind ≡ false
kind_stays p (says.Kind kind) e = refl
kind_stays p (says.Output name) e = e
kind_stays p (says.Base n) e = e
kind_stays p (says.Entry symbol) e = e
kind_stays p (says.Input input) e = e
kind_stays p (says.Run run) e = e
kind_stays p (says.Edge edge) e = e
kind_stays p (says.Drop section) e = e
kind_stays p (says.Soname text) e = e
kind_stays p (says.Needed text) e = e
kind_stays p (says.Export symbol) e = e
kind_stays p says.Symbolic e = e
kind_stays p (says.Undefined refuse) e = e

kind_comes : (p : Parts) (k : Keyword) (number : ℕ) (ws : List (List ℕ)) (s : Statement) → is_kind k ≡ true → statement_of k number ws ≡ Some s → is_none (also p s).kind ≡ false
kind_comes p keyword.Kind number ws s e f = go (kind_of (word_at ws 0)) s f
  where
    go : (o : Option KitKind) (s : Statement) → option_map (λ x. says.Kind x) o ≡ Some s → is_none (also p s).kind ≡ false
    go None s f = cc
    go (Some kind) s f = let e : says.Kind kind ≡ s = cc in subst (λ (x : Statement). is_none (also p x).kind ≡ false) e refl
kind_comes p keyword.Output number ws s e f = cc
kind_comes p keyword.Base number ws s e f = cc
kind_comes p keyword.Entry number ws s e f = cc
kind_comes p keyword.Head number ws s e f = cc
kind_comes p keyword.Object number ws s e f = cc
kind_comes p keyword.Tail number ws s e f = cc
kind_comes p keyword.Run number ws s e f = cc
kind_comes p keyword.Edge number ws s e f = cc
kind_comes p keyword.Drop number ws s e f = cc
kind_comes p keyword.Soname number ws s e f = cc
kind_comes p keyword.Needed number ws s e f = cc
kind_comes p keyword.Export number ws s e f = cc
kind_comes p keyword.Symbolic number ws s e f = cc
kind_comes p keyword.Undefined number ws s e f = cc

kind_known : (p : Parts) (k : Keyword) (number : ℕ) (ws : List (List ℕ)) (s : Statement) → stands_at p.kind k ≡ true → statement_of k number ws ≡ Some s → is_none (also p s).kind ≡ false
kind_known p k number ws s stands f = go p.kind refl stands
  where
    go : (o : Option KitKind) → p.kind ≡ o → stands_at o k ≡ true → is_none (also p s).kind ≡ false
    go None e stands = kind_comes p k number ws s stands f
    go (Some kind) e stands = kind_stays p s (ap (λ (x : Option KitKind). is_none x) e)

not_empty : (before : List KitLine) (l : KitLine) → is_empty (before ++ l ∷ []) ≡ false
not_empty [] l = refl
not_empty (x ∷ before) l = refl

placed : (t : Bool) (l : KitLine) (k : Keyword) → place_faults t l k ≡ [] → t ≡ true
placed true l k e = refl
placed false l k e = cc

pub read_more : (r new : Reader) (before : List KitLine) (l : KitLine) (k : Keyword) (s : Statement) → HasRead r before → IsSaid before l k s
    → HasKeys new.keys (flat_map line_keys before ++ keys_of k l.words) → new.parts ≡ also r.parts s → HasRead new (before ++ l ∷ [])
read_more r new before l k s h is keys parts =
    let all : flat_map line_keys (before ++ l ∷ []) ≡ flat_map line_keys before ++ keys_of k l.words = flat_map-append line_keys before (l ∷ []) ∙ ap (λ ks. flat_map line_keys before ++ ks) (append-nil (line_keys l) ∙ keys_are l k is.keyword) in
    let stands : stands_at r.parts.kind k ≡ true = sym (place_is r before k h) ∙ placed (is_in_place before k) l k is.place in
    record {
      keys = rw all keys;
      parts = parts ∙ (ap (λ (p : Parts). also p s) h.parts ∙ (also-parts (statements before) s ∙ ap parts_of (sym (statements_more before l k s is))));
      first = not_empty before l ∙ sym (ap (λ (p : Parts). is_none p.kind) parts ∙ kind_known r.parts k l.number l.words s stands is.statement);
    }

-- a fault as an error
pub told : (faults : List KitFault) (f : KitFault) (e : KitError) → e ≡ error.Fault f → slice_get faults 0 ≡ Some f → IsFirst faults e
told faults f e is first = subst (IsFirst faults) (sym is) first

pub handed : {T : Type 0} (faults : List KitFault) (f : KitFault) (result : Result T KitError) → IsErrAnd result (λ e. e ≡ error.Fault f) → slice_get faults 0 ≡ Some f → IfErr result (IsFirst faults)
handed faults f (Ok x) is first = tt
handed faults f (Err e) is first = told faults f e is first

pub is_again : (again fresh : Bool) → fresh ≡ false → fresh ≡ not again → again ≡ true
is_again true fresh e n = refl
is_again false fresh e n = cc

pub is_fresh : (again fresh : Bool) → fresh ≡ true → fresh ≡ not again → again ≡ false
is_fresh true fresh e n = cc
is_fresh false fresh e n = refl
