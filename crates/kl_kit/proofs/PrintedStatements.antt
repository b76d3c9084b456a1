-- A line that says something is read as what it says.
use Rattle.std.proofs.Common.{◌≡◌, ℕ, zero, suc, ◌*◌, ◌<◌, ◌≤◌, Bool, true, false, not, ◌&&◌, List, [], ◌∷◌, ◌++◌, length, refl, ap, arith}
use Rattle.std.specs.Prelude.{Some, ◌==◌, nat_le, nat_eq, codes, is_none, if◌then◌else◌}
use Rattle.std.specs.Option.{option_map}
use Rattle.std.specs.List.{list_all, ends_with, AllByRecursion}
use Rattle.std.specs.Str.{bytes_eq}
use Rattle.std.specs.Int.{to_be_bytes, w64}
use Rattle.std.proofs.lemmas.List.Sums.{list_all-from_AllPass}
use Rattle.hex.specs.Hex.{encode_lower, is_hex_digit}
use Rattle.hex.proofs.HexLemmas.{decode_of-encode_lower, decode_of-ok}
use Rattle.kl_base.specs.Names.{name_fault, is_path_byte}
use Rattle.kl_base.specs.declared.class.Class.{Class}
use Rattle.kl_base.specs.declared.class.Class.TheVariants.{Text, Rodata, Rwdata, Bss}
use Rattle.kl_base.specs.declared.limits.TheConstants.{BASE_LIMIT, FILE_LIMIT, PAGE, SCRATCH_SUFFIX, WORD_LIMIT}
use Rattle.kl_base.proofs.Bools.{and_left, and_right, none_is}
use Rattle.kl_base.proofs.Joined.{name_bytes}
use Rattle.kl_model.specs.Areas.{may_have_edge}
use Rattle.kl_model.specs.declared.object.Part.{Part}
use Rattle.kl_model.specs.declared.object.Part.TheVariants.{Head, Drawn, Tail}
use Rattle.kl_model.specs.declared.kit.EdgeLine.{EdgeLine}
use Rattle.kl_model.specs.declared.kit.KitInput.{KitInput}
use Rattle.kl_model.specs.declared.kit.KitKind.{KitKind}
use Rattle.kl_model.specs.declared.kit.KitKind.TheVariants.{Kernel, Library}
use Rattle.kl_model.specs.declared.kit.Run.{Run}
use Rattle.kl_kit.specs.Forms.{HasFile, area_of, class_of, end_of, file_of, is_file, name_of, word_if, word_of}
use Rattle.kl_kit.specs.Keywords.{has_lines, word_count}
use Rattle.kl_kit.specs.KitLines.{statement_of}
use Rattle.kl_kit.specs.KitPrints.{area_word, base_word, class_word, end_word, kind_word, part_keyword}
use Rattle.kl_kit.specs.KitTexts.{is_kind, output_faults}
use Rattle.kl_kit.specs.ReadableKits.{HasEdgeWords, HasRunWords, IsWord}
use Rattle.kl_kit.specs.declared.keyword.Keyword.{Keyword}
use Rattle.kl_kit.specs.declared.keyword.Keyword.TheVariants as keyword
use Rattle.kl_kit.specs.declared.statement.Statement.{Statement}
use Rattle.kl_kit.specs.declared.statement.Statement.TheVariants as says
use Rattle.kl_kit.proofs.BaseWords.{base_again, bytes_fit}
use Rattle.kl_kit.proofs.PrintedRows.{IsPrintable, Row}

abbrev refuse_word : Bool → List ℕ
refuse_word refuse = if refuse then codes "refuse" else codes "allow"

-- the line that says a thing
abbrev pub row_of : Statement → Row
row_of (says.Kind kind) = record { keyword = keyword.Kind; words = kind_word kind ∷ [] }
row_of (says.Output name) = record { keyword = keyword.Output; words = name ∷ [] }
row_of (says.Base n) = record { keyword = keyword.Base; words = base_word n ∷ [] }
row_of (says.Entry symbol) = record { keyword = keyword.Entry; words = symbol ∷ [] }
row_of (says.Input input) = record { keyword = part_keyword input.place; words = input.file ∷ [] }
row_of (says.Run run) = record { keyword = keyword.Run; words = run.section ∷ class_word run.class ∷ run.start ∷ run.end ∷ [] }
row_of (says.Edge edge) = record { keyword = keyword.Edge; words = edge.symbol ∷ area_word edge.area ∷ end_word edge.end ∷ [] }
row_of (says.Drop section) = record { keyword = keyword.Drop; words = section ∷ [] }
row_of (says.Soname text) = record { keyword = keyword.Soname; words = text ∷ [] }
row_of (says.Needed text) = record { keyword = keyword.Needed; words = text ∷ [] }
row_of (says.Export symbol) = record { keyword = keyword.Export; words = symbol ∷ [] }
row_of says.Symbolic = record { keyword = keyword.Symbolic; words = [] }
row_of (says.Undefined refuse) = record { keyword = keyword.Undefined; words = refuse_word refuse ∷ [] }

-- the same, said in the line of a number
abbrev pub at : ℕ → Statement → Statement
at n (says.Input input) = says.Input (record input { line = n })
at n (says.Run run) = says.Run (record run { line = n })
at n (says.Edge edge) = says.Edge (record edge { line = n })
at n (says.Kind kind) = says.Kind kind
at n (says.Output name) = says.Output name
at n (says.Base m) = says.Base m
at n (says.Entry symbol) = says.Entry symbol
at n (says.Drop section) = says.Drop section
at n (says.Soname text) = says.Soname text
at n (says.Needed text) = says.Needed text
at n (says.Export symbol) = says.Export symbol
at n says.Symbolic = says.Symbolic
at n (says.Undefined refuse) = says.Undefined refuse

-- a line that can be read in the text of a kit of the kind, behind its first
pub record IsSaid (kind : KitKind) (s : Statement) : Type 0 where
  pub no_kind : is_kind (row_of s).keyword ≡ false
  pub of_kind : has_lines kind (row_of s).keyword ≡ true
  pub printable : AllByRecursion IsPrintable (row_of s).words
  pub count : (length (row_of s).words == word_count (row_of s).keyword) ≡ true
  pub read : (n : ℕ) → statement_of (row_of s).keyword n (row_of s).words ≡ Some (at n s)
  pub output : (n : ℕ) → output_faults (Some kind) n (at n s) ≡ []

some_bytes : (w : List ℕ) → not (length w == 0) ≡ true → 0 < length w
some_bytes [] e = cc
some_bytes (b ∷ w) e = omega arith

word_printable : (w : List ℕ) → IsWord w → IsPrintable w
word_printable w is = record {
  some = some_bytes w (and_left (not (length w == 0)) (nat_le (length w) WORD_LIMIT) (and_left (not (length w == 0) && nat_le (length w) WORD_LIMIT) (list_all is_path_byte w) is));
  bytes = and_right (not (length w == 0) && nat_le (length w) WORD_LIMIT) (list_all is_path_byte w) is;
}

word_again : (w : List ℕ) → IsWord w → word_of w ≡ Some w
word_again w is = rw is refl

name_printable : (w : List ℕ) → is_none (name_fault w) ≡ true → IsPrintable w
name_printable [] e = cc
name_printable (b ∷ w) e = record { some = omega arith; bytes = name_bytes (b ∷ w) (none_is (name_fault (b ∷ w)) e) }

name_again : (w : List ℕ) → is_none (name_fault w) ≡ true → name_of w ≡ Some w
name_again w e = ap (λ t. word_if t w) e

file_name : (w : List ℕ) → is_file w ≡ true → is_none (name_fault (codes "/" ++ w)) ≡ true
file_name w is =
    let a = nat_le (length w) FILE_LIMIT in
    let b = is_none (name_fault (codes "/" ++ w)) in
    let d = not (bytes_eq w (codes "link.conf")) in
    let e = not (ends_with nat_eq w SCRATCH_SUFFIX) in
    and_right a b (and_left (a && b) d (and_left ((a && b) && d) e is))

file_printable : (w : List ℕ) → is_file w ≡ true → IsPrintable w
file_printable [] is = cc
file_printable (b ∷ w) is =
    let all = name_bytes (47 ∷ b ∷ w) (none_is (name_fault (47 ∷ b ∷ w)) (file_name (b ∷ w) is)) in
    record { some = omega arith; bytes = and_right (is_path_byte 47) (list_all is_path_byte (b ∷ w)) all }

file_again : (w : List ℕ) → is_file w ≡ true → file_of w ≡ Some w
file_again w is = ap (λ t. word_if t w) is

class_again : (c : Class) → class_of (class_word c) ≡ Some c
class_again Text = refl
class_again Rodata = refl
class_again Rwdata = refl
class_again Bss = refl

class_printable : (c : Class) → IsPrintable (class_word c)
class_printable Text = record { some = omega arith; bytes = refl }
class_printable Rodata = record { some = omega arith; bytes = refl }
class_printable Rwdata = record { some = omega arith; bytes = refl }
class_printable Bss = record { some = omega arith; bytes = refl }

end_again : (end : Bool) → end_of (end_word end) ≡ Some end
end_again true = refl
end_again false = refl

end_printable : (end : Bool) → IsPrintable (end_word end)
end_printable true = record { some = omega arith; bytes = refl }
end_printable false = record { some = omega arith; bytes = refl }

-- an area that an edge may name is read back
record IsEdgeArea (n : ℕ) : Type 0 where
  pub again : area_of (area_word n) ≡ Some n
  pub printable : IsPrintable (area_word n)

area_again : (n : ℕ) → may_have_edge n ≡ true → IsEdgeArea n
unfolding area_of
area_again zero e = record { again = refl; printable = record { some = omega arith; bytes = refl } }
area_again (suc zero) e = record { again = refl; printable = record { some = omega arith; bytes = refl } }
area_again (suc (suc zero)) e = record { again = refl; printable = record { some = omega arith; bytes = refl } }
area_again (suc (suc (suc zero))) e = record { again = refl; printable = record { some = omega arith; bytes = refl } }
area_again (suc (suc (suc (suc zero)))) e = record { again = refl; printable = record { some = omega arith; bytes = refl } }
area_again (suc (suc (suc (suc (suc zero))))) e = record { again = refl; printable = record { some = omega arith; bytes = refl } }
area_again (suc (suc (suc (suc (suc (suc zero)))))) e = cc
area_again (suc (suc (suc (suc (suc (suc (suc zero))))))) e = record { again = refl; printable = record { some = omega arith; bytes = refl } }
area_again (suc (suc (suc (suc (suc (suc (suc (suc zero)))))))) e = cc
area_again (suc (suc (suc (suc (suc (suc (suc (suc (suc zero))))))))) e = record { again = refl; printable = record { some = omega arith; bytes = refl } }
area_again (suc (suc (suc (suc (suc (suc (suc (suc (suc (suc zero)))))))))) e = record { again = refl; printable = record { some = omega arith; bytes = refl } }
area_again (suc (suc (suc (suc (suc (suc (suc (suc (suc (suc (suc zero))))))))))) e = record { again = refl; printable = record { some = omega arith; bytes = refl } }
area_again (suc (suc (suc (suc (suc (suc (suc (suc (suc (suc (suc (suc zero)))))))))))) e = record { again = refl; printable = record { some = omega arith; bytes = refl } }
area_again (suc (suc (suc (suc (suc (suc (suc (suc (suc (suc (suc (suc (suc zero))))))))))))) e = record { again = refl; printable = record { some = omega arith; bytes = refl } }
area_again (suc (suc (suc (suc (suc (suc (suc (suc (suc (suc (suc (suc (suc (suc zero)))))))))))))) e = record { again = refl; printable = record { some = omega arith; bytes = refl } }
area_again (suc (suc (suc (suc (suc (suc (suc (suc (suc (suc (suc (suc (suc (suc (suc n))))))))))))))) e = cc

hex_path : (b : ℕ) → is_hex_digit b ≡ true → is_path_byte b ≡ true
hex_path b e = grind (arith)

hex_paths : (w : List ℕ) → list_all is_hex_digit w ≡ true → list_all is_path_byte w ≡ true
hex_paths [] e = refl
hex_paths (b ∷ w) e = rw (hex_path b (and_left (is_hex_digit b) (list_all is_hex_digit w) e), hex_paths w (and_right (is_hex_digit b) (list_all is_hex_digit w) e)) refl

base_printable : (n : ℕ) → IsPrintable (base_word n)
base_printable n =
    let bytes = to_be_bytes w64 n in
    let digits = list_all-from_AllPass is_hex_digit (encode_lower bytes) (decode_of-ok (encode_lower bytes) bytes (decode_of-encode_lower bytes (bytes_fit 8 n))).1 in
    record { some = omega arith; bytes = hex_paths (encode_lower bytes) digits }

one_is_said : (kind : KitKind) (s : Statement) (k : Keyword) (w : List ℕ) → row_of s ≡ record { keyword = k; words = w ∷ [] } → is_kind k ≡ false → has_lines kind k ≡ true → word_count k ≡ 1
    → IsPrintable w → ((n : ℕ) → statement_of k n (w ∷ []) ≡ Some (at n s)) → ((n : ℕ) → output_faults (Some kind) n (at n s) ≡ []) → IsSaid kind s
one_is_said kind s k w row no_kind of_kind count is read output = record {
  no_kind = rw row no_kind;
  of_kind = rw row of_kind;
  printable = rw row (is, tt);
  count = rw (row, count) refl;
  read = rw row read;
  output = output;
}

pub said_output : (kind : KitKind) (name : List ℕ) → is_none (name_fault name) ≡ true → ((n : ℕ) → output_faults (Some kind) n (says.Output name) ≡ []) → IsSaid kind (says.Output name)
said_output kind name is free = one_is_said kind (says.Output name) keyword.Output name refl refl (of kind) refl (name_printable name is) (λ n. ap (option_map (λ w. says.Output w)) (name_again name is)) free
  where
    of : (kind : KitKind) → has_lines kind keyword.Output ≡ true
    of Kernel = refl
    of Library = refl

pub said_base : (n : ℕ) → (m : ℕ) × (PAGE * m ≡ n) → n ≤ BASE_LIMIT → IsSaid Kernel (says.Base n)
said_base n page limit = one_is_said Kernel (says.Base n) keyword.Base (base_word n) refl refl refl refl (base_printable n) (λ k. ap (option_map (λ b. says.Base b)) (base_again n page limit)) (λ k. refl)

pub said_entry : (kind : KitKind) (w : List ℕ) → IsWord w → IsSaid kind (says.Entry w)
said_entry Kernel w is = one_is_said Kernel (says.Entry w) keyword.Entry w refl refl refl refl (word_printable w is) (λ k. ap (option_map (λ x. says.Entry x)) (word_again w is)) (λ k. refl)
said_entry Library w is = one_is_said Library (says.Entry w) keyword.Entry w refl refl refl refl (word_printable w is) (λ k. ap (option_map (λ x. says.Entry x)) (word_again w is)) (λ k. refl)

pub said_drop : (kind : KitKind) (w : List ℕ) → IsWord w → IsSaid kind (says.Drop w)
said_drop Kernel w is = one_is_said Kernel (says.Drop w) keyword.Drop w refl refl refl refl (word_printable w is) (λ k. ap (option_map (λ x. says.Drop x)) (word_again w is)) (λ k. refl)
said_drop Library w is = one_is_said Library (says.Drop w) keyword.Drop w refl refl refl refl (word_printable w is) (λ k. ap (option_map (λ x. says.Drop x)) (word_again w is)) (λ k. refl)

pub said_soname : (w : List ℕ) → IsWord w → IsSaid Library (says.Soname w)
said_soname w is = one_is_said Library (says.Soname w) keyword.Soname w refl refl refl refl (word_printable w is) (λ k. ap (option_map (λ x. says.Soname x)) (word_again w is)) (λ k. refl)

pub said_needed : (w : List ℕ) → IsWord w → IsSaid Library (says.Needed w)
said_needed w is = one_is_said Library (says.Needed w) keyword.Needed w refl refl refl refl (word_printable w is) (λ k. ap (option_map (λ x. says.Needed x)) (word_again w is)) (λ k. refl)

pub said_export : (w : List ℕ) → IsWord w → IsSaid Library (says.Export w)
said_export w is = one_is_said Library (says.Export w) keyword.Export w refl refl refl refl (word_printable w is) (λ k. ap (option_map (λ x. says.Export x)) (word_again w is)) (λ k. refl)

pub said_symbolic : IsSaid Library says.Symbolic
said_symbolic = record { no_kind = refl; of_kind = refl; printable = tt; count = refl; read = λ n. refl; output = λ n. refl }

pub said_refuse : IsSaid Library (says.Undefined true)
said_refuse = one_is_said Library (says.Undefined true) keyword.Undefined (codes "refuse") refl refl refl refl (record { some = omega arith; bytes = refl }) (λ n. refl) (λ n. refl)

pub said_input : (kind : KitKind) (input : KitInput) → HasFile input → IsSaid kind (says.Input input)
said_input kind input is = one_is_said kind (says.Input input) (part_keyword input.place) input.file refl (no_kind input.place) (of kind input.place) (count input.place) (file_printable input.file is) (λ n. read input.place n) (none kind)
  where
    no_kind : (part : Part) → is_kind (part_keyword part) ≡ false
    no_kind Head = refl
    no_kind Drawn = refl
    no_kind Tail = refl

    of : (kind : KitKind) (part : Part) → has_lines kind (part_keyword part) ≡ true
    of Kernel Head = refl
    of Kernel Drawn = refl
    of Kernel Tail = refl
    of Library Head = refl
    of Library Drawn = refl
    of Library Tail = refl

    count : (part : Part) → word_count (part_keyword part) ≡ 1
    count Head = refl
    count Drawn = refl
    count Tail = refl

    read : (part : Part) (n : ℕ) → statement_of (part_keyword part) n (input.file ∷ []) ≡ Some (says.Input (record { place = part; file = input.file; line = n }))
    read Head n = ap (option_map (λ w. says.Input (record { place = Head; file = w; line = n }))) (file_again input.file is)
    read Drawn n = ap (option_map (λ w. says.Input (record { place = Drawn; file = w; line = n }))) (file_again input.file is)
    read Tail n = ap (option_map (λ w. says.Input (record { place = Tail; file = w; line = n }))) (file_again input.file is)

    none : (kind : KitKind) (n : ℕ) → output_faults (Some kind) n (says.Input (record input { line = n })) ≡ []
    none Kernel n = refl
    none Library n = refl

pub said_run : (kind : KitKind) (run : Run) → HasRunWords run → IsSaid kind (says.Run run)
said_run kind run is = record {
  no_kind = refl;
  of_kind = of kind;
  printable = (word_printable run.section is.section, (class_printable run.class, (word_printable run.start is.start, (word_printable run.end is.end, tt))));
  count = refl;
  read = λ n. rw (word_again run.section is.section, class_again run.class, word_again run.start is.start, word_again run.end is.end) refl;
  output = none kind;
}
  where
    of : (kind : KitKind) → has_lines kind keyword.Run ≡ true
    of Kernel = refl
    of Library = refl

    none : (kind : KitKind) (n : ℕ) → output_faults (Some kind) n (says.Run (record run { line = n })) ≡ []
    none Kernel n = refl
    none Library n = refl

pub said_edge : (kind : KitKind) (edge : EdgeLine) → HasEdgeWords edge → IsSaid kind (says.Edge edge)
said_edge kind edge is =
    let area = area_again edge.area is.area in
    record {
      no_kind = refl;
      of_kind = of kind;
      printable = (word_printable edge.symbol is.symbol, (area.printable, (end_printable edge.end, tt)));
      count = refl;
      read = λ n. rw (word_again edge.symbol is.symbol, area.again, end_again edge.end) refl;
      output = none kind;
    }
  where
    of : (kind : KitKind) → has_lines kind keyword.Edge ≡ true
    of Kernel = refl
    of Library = refl

    none : (kind : KitKind) (n : ℕ) → output_faults (Some kind) n (says.Edge (record edge { line = n })) ≡ []
    none Kernel n = refl
    none Library n = refl
