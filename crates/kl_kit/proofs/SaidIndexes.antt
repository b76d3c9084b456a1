-- AN INDEX WITHOUT A FAULT is one that a text can say, and its text says it.
use Rattle.std.proofs.Common.{◌≡◌, ℕ, ◌<◌, ◌≤◌, Bool, true, false, not, cond, ◌||◌, List, [], ◌∷◌, ◌++◌, length, refl, sym, ap, subst, ◌∙◌, arith, append_assoc, Option}
use Rattle.std.specs.Prelude.{Result, Ok, Err, IfOk, OnOk, Some, None, ◌==◌, ◌≢◌, nat_eq, nat_le, nat_lt, codes, map, All, AllPairs, is_none}
use Rattle.std.specs.Str.{bytes_eq}
use Rattle.std.specs.Option.{option_and_then, option_map, option_map_or}
use Rattle.std.specs.List.{cons_option, ends_with, list_any, starts_with}
use Rattle.std.proofs.lemmas.Bool.{eqb-true, leb-false, leb-true, ltb-false}
use Rattle.std.proofs.lemmas.List.{append-nil, length-append, map-append}
use Rattle.std.proofs.lemmas.List.Elements.{All-append, All-cons, All-nil, filter_map-append}
use Rattle.kl_base.specs.Names.{name_fault}
use Rattle.kl_base.specs.declared.limits.TheConstants.{FILE_LIMIT, OUTPUT_LIMIT, SCRATCH_SUFFIX}
use Rattle.kl_base.proofs.Bools.{alone, and_left, and_right, chosen, equal_bytes, none_is, same_bytes}
use Rattle.kl_text.specs.Lines.{lines}
use Rattle.kl_model.specs.Kits.{is_empty}
use Rattle.kl_model.specs.Lists.{only_if}
use Rattle.kl_model.proofs.Each.{none_left, none_right, pairs-append}
use Rattle.kl_kit.specs.Forms.{dir_of, is_below_kits, is_reserved, name_of}
use Rattle.kl_kit.specs.IndexTexts.{index_faults, index_line_faults, index_of, is_library_word, libraries, library_faults, library_line_faults, library_of, line_library, no_library, share_name}
use Rattle.kl_kit.specs.Indexes.{IsFreeOutput, IsIndex, IsIndexText, IsKitFolder, IsLibraryLine, library_line}
use Rattle.kl_kit.specs.KitLines.{KitLine, said, word_at}
use Rattle.kl_kit.specs.declared.fault.KitError.{KitError}
use Rattle.kl_kit.specs.declared.fault.KitFault.{KitFault}
use Rattle.kl_kit.specs.declared.fault.KitFault.TheVariants as fault
use Rattle.kl_kit.specs.declared.fault.Needed.TheVariants as needed
use Rattle.kl_kit.specs.declared.index.Library.{Library}
use Rattle.kl_kit.specs.declared.index.TheConstants.{LIBRARY_LIMIT}
use Rattle.kl_kit.proofs.KernelKits.{not_told}
use Rattle.kl_kit.proofs.PrintedFaults.{or_left, or_right}
use Rattle.kl_kit.proofs.SoundLines.{AreSoundBy, lines_sound, lines_text, lines_whole, not_false}

-- WHAT A FORM SAYS
same_bytes_not : (a b : List ℕ) → bytes_eq a b ≡ false → a ≢ b
same_bytes_not a b e = λ same. true_false (sym (ap (bytes_eq a) (sym same) ∙ same_bytes a) ∙ e)
  where
    true_false : true ≡ false → ⊥
    true_false e = cc

named : (w n : List ℕ) → name_of w ≡ Some n → (name_fault w ≡ None) × (w ≡ n)
named w n e = let both = chosen (is_none (name_fault w)) w n e in (none_is (name_fault w) both.0, both.1)

folder : (w dir : List ℕ) → dir_of w ≡ Some dir → IsKitFolder w × (w ≡ dir)
folder w dir e = go (is_below_kits w) refl e
  where
    go : (t : Bool) → is_below_kits w ≡ t → cond {A = Option (List ℕ)} t (name_of w) None ≡ Some dir → IsKitFolder w × (w ≡ dir)
    go false is e = cc
    go true is e =
        let is_name = named w dir e in (
          record {
            name = is_name.0;
            short = leb-true (length w) FILE_LIMIT (and_left (nat_le (length w) FILE_LIMIT) (starts_with nat_eq w (codes "/usr/share/relink/")) is);
            below = and_right (nat_le (length w) FILE_LIMIT) (starts_with nat_eq w (codes "/usr/share/relink/")) is;
          },
          is_name.1,
        )

-- an output that isn't reserved
free : (w : List ℕ) → name_fault w ≡ None → is_reserved w ≡ false → IsFreeOutput w
free w name e =
    let a = nat_lt OUTPUT_LIMIT (length w) in
    let b = bytes_eq w (codes "/bsd") in
    let c = bytes_eq w (codes "/obsd") in
    let d = starts_with nat_eq w (codes "/usr/share/relink/") in
    let f = starts_with nat_eq w (codes "/var/db/") in
    let g = ends_with nat_eq w SCRATCH_SUFFIX in
    let h = ends_with nat_eq w (codes ".map") in
    let i = ends_with nat_eq w (codes "/linked") in
    let seven = or_left (a || b || c || d || f || g || h) i e in
    let six = or_left (a || b || c || d || f || g) h seven in
    let five = or_left (a || b || c || d || f) g six in
    let four = or_left (a || b || c || d) f five in
    let three = or_left (a || b || c) d four in
    let two = or_left (a || b) c three in
    record {
      name = name;
      short = ltb-false OUTPUT_LIMIT (length w) (or_left a b two);
      kernel = same_bytes_not w (codes "/bsd") (or_right a b two);
      old_kernel = same_bytes_not w (codes "/obsd") (or_right (a || b) c three);
      no_kit = or_right (a || b || c) d four;
      no_record = or_right (a || b || c || d) f five;
      no_scratch = or_right (a || b || c || d || f) g six;
      no_map = or_right (a || b || c || d || f || g) h seven;
      not_linked = or_right (a || b || c || d || f || g || h) i e;
    }

-- A LINE WITHOUT A FAULT
pub record IsSoundLibrary (before : List Library) (l : KitLine) (library : Library) : Type 0 where
  pub line : l ≡ library_line library
  pub says : line_library l ≡ Some library
  pub form : IsLibraryLine library
  pub once : list_any (share_name library) before ≡ false
  pub room : length before < LIBRARY_LIMIT

two_words : (ws : List (List ℕ)) → length ws ≡ 2 → ws ≡ word_at ws 0 ∷ word_at ws 1 ∷ []
two_words [] e = cc
two_words (a ∷ []) e = cc
two_words (a ∷ b ∷ []) e = refl
two_words (a ∷ b ∷ c ∷ ws) e = absurd (omega (arith, e))

module _ (before : List Library) (l : KitLine) (Q : Type 0) (give : (library : Library) → IsSoundLibrary before l library → Q) where
  with_words : is_library_word l.keyword ≡ true → length l.words ≡ 2 → (d o : Option (List ℕ)) → dir_of (word_at l.words 0) ≡ d → name_of (word_at l.words 1) ≡ o
      → option_map_or (library_faults before) (option_and_then (λ dir. option_map (λ output. record { dir = dir; output = output; line = l.number }) o) d) (fault.Value l.number ∷ []) ≡ [] → Q
  with_words word two None o d_is o_is none = cc
  with_words word two (Some dir) None d_is o_is none = cc
  with_words word two (Some dir) (Some output) d_is o_is none =
      let library : Library = record { dir = dir; output = output; line = l.number } in
      let a = only_if (is_reserved output) (fault.Reserved l.number) in
      let b = only_if (list_any (share_name library) before) (fault.Twice l.number) in
      let c = only_if (nat_le LIBRARY_LIMIT (length before)) (fault.Limit l.number) in
      let is_folder = folder (word_at l.words 0) dir d_is in
      let is_name = named (word_at l.words 1) output o_is in
      let words : l.words ≡ dir ∷ output ∷ [] = two_words l.words two ∙ rw (is_folder.1, is_name.1) refl in
      let keyword : l.keyword ≡ codes "library" = equal_bytes l.keyword (codes "library") word in
      let read : library_of l.number l.words ≡ Some library = rw (d_is, o_is) refl in
      give library (record {
        line = line_is l.number l.keyword l.words library keyword words refl;
        says = ap (λ t. cond {A = Option Library} t (library_of l.number l.words) None) word ∙ read;
        form = record {
          dir = subst IsKitFolder is_folder.1 is_folder.0;
          output = free output (ap name_fault (sym is_name.1) ∙ is_name.0) (not_told (is_reserved output) (fault.Reserved l.number) (none_left a b (none_left (a ++ b) c none)));
        };
        once = not_told (list_any (share_name library) before) (fault.Twice l.number) (none_right a b (none_left (a ++ b) c none));
        room = (let full = leb-false LIBRARY_LIMIT (length before) (not_told (nat_le LIBRARY_LIMIT (length before)) (fault.Limit l.number) (none_right (a ++ b) c none)) in omega (arith, full));
      })
    where
      line_is : (n : ℕ) (k : List ℕ) (ws : List (List ℕ)) (x : Library) → k ≡ codes "library" → ws ≡ x.dir ∷ x.output ∷ [] → n ≡ x.line → record { number = n; keyword = k; words = ws } ≡ library_line x
      line_is n k ws x a b c = rw (a, b, c) refl

  sound_library : library_line_faults before l ≡ [] → Q
  sound_library none = go (is_library_word l.keyword) refl none
    where
      go : (t : Bool) → is_library_word l.keyword ≡ t
          → cond {A = List KitFault} t (only_if (not (length l.words == 2)) (fault.Count l.number) ++ option_map_or (library_faults before) (library_of l.number l.words) (fault.Value l.number ∷ [])) (fault.Keyword l.number ∷ []) ≡ [] → Q
      go false word none = cc
      go true word none =
          let a = only_if (not (length l.words == 2)) (fault.Count l.number) in
          let b = option_map_or (library_faults before) (library_of l.number l.words) (fault.Value l.number ∷ []) in
          let two = eqb-true (length l.words) 2 (not_false (length l.words == 2) (not_told (not (length l.words == 2)) (fault.Count l.number) (none_left a b none))) in
          with_words word two (dir_of (word_at l.words 0)) (name_of (word_at l.words 1)) refl refl (none_right a b none)

-- BEHIND LINES WITHOUT A FAULT
record SoFar (done : List KitLine) : Type 0 where
  pub says : done ≡ map library_line (libraries done)
  pub form : All IsLibraryLine (libraries done)
  pub dirs : AllPairs (λ a b. a.dir ≢ b.dir) (libraries done)
  pub outputs : AllPairs (λ a b. a.output ≢ b.output) (libraries done)
  pub count : length (libraries done) ≤ LIBRARY_LIMIT

-- none of those before has the folder or the output
others : (library : Library) (before : List Library) → list_any (share_name library) before ≡ false
    → All (λ a. All (λ b. a.dir ≢ b.dir) (library ∷ [])) before × All (λ a. All (λ b. a.output ≢ b.output) (library ∷ [])) before
others library [] e = (All-nil _, All-nil _)
others library (x ∷ before) e =
    let here = or_left (share_name library x) (list_any (share_name library) before) e in
    let rest = others library before (or_right (share_name library x) (list_any (share_name library) before) e) in
    let dir = same_bytes_not library.dir x.dir (or_left (bytes_eq library.dir x.dir) (bytes_eq library.output x.output) here) in
    let output = same_bytes_not library.output x.output (or_right (bytes_eq library.dir x.dir) (bytes_eq library.output x.output) here) in (
      All-cons (λ a. All (λ b. a.dir ≢ b.dir) (library ∷ [])) x before (alone (λ b. x.dir ≢ b.dir) library (λ same. dir (sym same))) rest.0,
      All-cons (λ a. All (λ b. a.output ≢ b.output) (library ∷ [])) x before (alone (λ b. x.output ≢ b.output) library (λ same. output (sym same))) rest.1,
    )

one_pair : {X : Type 0} (R : X → X → Type 0) (x : X) → AllPairs R (x ∷ [])
one_pair R x i j d low high = absurd (omega (arith, low, high))

one_more : (done : List KitLine) (l : KitLine) (library : Library) → SoFar done → IsSoundLibrary (libraries done) l library → SoFar (done ++ l ∷ [])
one_more done l library so_far is =
    let all : libraries (done ++ l ∷ []) ≡ libraries done ++ library ∷ [] = filter_map-append line_library done (l ∷ []) ∙ ap (λ (o : Option Library). libraries done ++ cons_option o []) is.says in
    let apart = others library (libraries done) is.once in
    record {
      says = ap (λ x. x ++ l ∷ []) so_far.says ∙ ap (λ x. map library_line (libraries done) ++ x ∷ []) is.line ∙ sym (ap (map library_line) all ∙ map-append library_line (libraries done) (library ∷ []));
      form = rw all (All-append IsLibraryLine (libraries done) (library ∷ []) so_far.form (alone IsLibraryLine library is.form));
      dirs = rw all (pairs-append (λ a b. a.dir ≢ b.dir) (libraries done) (library ∷ []) so_far.dirs (one_pair (λ a b. a.dir ≢ b.dir) library) apart.0);
      outputs = rw all (pairs-append (λ a b. a.output ≢ b.output) (libraries done) (library ∷ []) so_far.outputs (one_pair (λ a b. a.output ≢ b.output) library) apart.1);
      count = (let long = ap length all ∙ length-append (libraries done) (library ∷ []) in let room = is.room in omega (arith, long, room));
    }

all_more : (done ls : List KitLine) → SoFar done → AreSoundBy index_line_faults done ls → SoFar (done ++ ls)
all_more done [] so_far are = subst SoFar (sym (append-nil done)) so_far
all_more done (l ∷ ls) so_far are =
    sound_library (libraries done) l (SoFar (done ++ l ∷ ls)) (λ library is. subst SoFar (append_assoc done (l ∷ []) ls) (all_more (done ++ l ∷ []) ls (one_more done l library so_far is) are.1)) are.0

some_libraries : (xs : List Library) → is_empty xs ≡ false → 0 < length xs
some_libraries [] e = cc
some_libraries (x ∷ xs) e = omega arith

module _ (text : List ℕ) (none : index_faults text ≡ []) where
  so_far : SoFar (said (lines text))
  unfolding index_faults
  so_far =
      all_more [] (said (lines text)) (record {
        says = refl;
        form = All-nil IsLibraryLine;
        dirs = λ i j d low high. absurd (omega (arith, low, high));
        outputs = λ i j d low high. absurd (omega (arith, low, high));
        count = omega arith;
      }) (lines_sound index_line_faults no_library text none)

  pub text_index : IsIndex (index_of text)
  unfolding index_faults index_of
  text_index = record {
    lines = so_far.form;
    dirs = so_far.dirs;
    outputs = so_far.outputs;
    some = some_libraries (libraries (said (lines text))) (not_told (is_empty (libraries (said (lines text)))) (fault.Missing needed.Library) (lines_whole index_line_faults no_library text none));
    count = so_far.count;
  }

  pub text_says : IsIndexText text (index_of text)
  unfolding index_faults index_of
  text_says = record { bytes = lines_text index_line_faults no_library text none; lines = so_far.says }

pub index_read : (text : List ℕ) (result : Result (List Library) KitError) → IfOk result (λ index. index ≡ index_of text) → OnOk result (index_faults text ≡ []) → IfOk result IsIndex
index_read text (Ok index) is none = subst IsIndex (sym is) (text_index text none)
index_read text (Err e) is none = tt

pub index_said : (text : List ℕ) (result : Result (List Library) KitError) → IfOk result (λ index. index ≡ index_of text) → OnOk result (index_faults text ≡ []) → IfOk result (IsIndexText text)
index_said text (Ok index) is none = subst (IsIndexText text) (sym is) (text_says text none)
index_said text (Err e) is none = tt
