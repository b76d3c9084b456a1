-- The parts of the tables, one behind another.
use Rattle.std.proofs.Common.{ℕ, ◌≡◌, ◌+◌, ◌-◌, ◌*◌, ◌≤◌, ◌∙◌, List, ◌++◌, length, ap, arith, length-append}
use Rattle.std.specs.Prelude.{flat_map, replicate}
use Rattle.std.proofs.lemmas.List.{append_assoc}
use Rattle.kl_elf.specs.declared.records.Rela.{Rela}
use Rattle.kl_model.specs.Sizes.{bucket_count, symbol_count, tables_of}
use Rattle.kl_model.specs.Tables.{hash_words, padded_to, relas_of, strings_of, symbols_of, tables_bytes}
use Rattle.kl_model.specs.Written.{bytes_of, rela_bytes, sym_bytes}
use Rattle.kl_model.specs.declared.place.Placement.{Placement}
use Rattle.kl_model.specs.Slots.{jump_entries, rela_entries}
use Rattle.kl_model.specs.declared.graph.Graph.{Graph}
use Rattle.kl_model.specs.declared.kit.Kit.{Kit}
use Rattle.kl_model.specs.declared.object.Input.{Input}
use Rattle.kl_model.proofs.ImageBytes.{length-bytes_of}
use Rattle.kl_model.proofs.InOrder.{le-up}
use Rattle.kl_loading.proofs.Rows.{length-rows}
use Rattle.kl_loading.proofs.TableParts.{length-padded, length-words}

-- padding behind what has its length already
pub padded_behind : (n m : ℕ) (a b : List ℕ) → length a ≡ m → padded_to n (a ++ b) ≡ a ++ padded_to (n - m) b
padded_behind n m a b is =
    let left : n - length (a ++ b) ≡ n - m - length b = omega (arith, is, length-append a b) in
    ap (λ k. (a ++ b) ++ replicate k 0) left ∙ append_assoc a b (replicate (n - m - length b) 0)

-- the hash table fits before the symbols
pub hash_padded : (kit : Kit) (inputs : List Input) (g : Graph)
    → length (padded_to (tables_of kit g).symbols (flat_map (bytes_of 4) (hash_words inputs g))) ≡ (tables_of kit g).symbols
hash_padded kit inputs g =
    let count = length-rows (bytes_of 4) 4 (hash_words inputs g) (length-bytes_of 4) in
    let many = length-words inputs g in
    let past : 8 + 4 * (bucket_count g + symbol_count g) ≤ (tables_of kit g).symbols = le-up (8 + 4 * (bucket_count g + symbol_count g)) 8 (omega arith) in
    length-padded (tables_of kit g).symbols (flat_map (bytes_of 4) (hash_words inputs g)) (omega (arith, count, many, past))

-- one part behind another makes the tables
module _ (kit : Kit) (inputs : List Input) (g : Graph) (p : Placement) where
  abbrev hash : List ℕ
  hash = padded_to (tables_of kit g).symbols (flat_map (bytes_of 4) (hash_words inputs g))

  abbrev syms : List ℕ
  syms = flat_map sym_bytes (symbols_of p g)

  abbrev strings : List ℕ
  strings = strings_of kit inputs g

  abbrev relas : List ℕ
  relas = flat_map rela_bytes (relas_of p g (rela_entries g))

  abbrev jumps : List ℕ
  jumps = flat_map rela_bytes (relas_of p g (jump_entries g))

  abbrev named : List ℕ
  named = padded_to ((tables_of kit g).relas - (tables_of kit g).symbols) (syms ++ strings)

  named_behind : padded_to (tables_of kit g).relas ((hash ++ syms) ++ strings) ≡ hash ++ named
  named_behind =
      ap (padded_to (tables_of kit g).relas) (append_assoc hash syms strings)
      ∙ padded_behind (tables_of kit g).relas (tables_of kit g).symbols hash (syms ++ strings) (hash_padded kit inputs g)

  pub tables_joined : (padded_to (tables_of kit g).relas ((hash ++ syms) ++ strings) ++ relas) ++ jumps ≡ tables_bytes kit inputs g p
  tables_joined =
      ap (λ b. (b ++ relas) ++ jumps) named_behind
      ∙ (append_assoc (hash ++ named) relas jumps ∙ append_assoc hash named (relas ++ jumps))

  pub tables_are : (a b c d e f whole : List ℕ) (r j : List Rela) (m n : ℕ) → m ≡ (tables_of kit g).symbols → n ≡ (tables_of kit g).relas
      → r ≡ relas_of p g (rela_entries g) → j ≡ relas_of p g (jump_entries g)
      → a ≡ flat_map (bytes_of 4) (hash_words inputs g) → b ≡ padded_to m a → c ≡ b ++ syms → d ≡ c ++ strings → e ≡ padded_to n d
      → f ≡ e ++ flat_map rela_bytes r → whole ≡ f ++ flat_map rela_bytes j → whole ≡ tables_bytes kit inputs g p
  tables_are a b c d e f whole r j m n ms ns rs js ha hb hc hd he hf hw = rw (hw, hf, he, hd, hc, hb, ha, ms, ns, rs, js) tables_joined
