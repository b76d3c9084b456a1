-- What a reader keeps of the lines so far. For the contracts inside this crate alone.
use Rattle.std.specs.Prelude.{ℕ, ◌≡◌, Bool, true, false, not, ◌&&◌, List, [], ◌∷◌, ◌++◌, flat_map, slice_get, unwrap_or, is_none, Option, Some, None}
use Rattle.std.specs.Ordering.{nat_cmp, ordering_then}
use Rattle.std.specs.declared.cmp.Ordering.{Ordering}
use Rattle.std.specs.Cmp.Lexicographic.{slice_cmp}
use Rattle.std.specs.BTreeSet.{contains_by}
use denote.Ref.{Bor}
use Rattle.kl_text.specs.Lines.{words}
use Rattle.kl_model.specs.Kits.{is_empty}
use Rattle.kl_kit.specs.Keys.{Key, has_key, line_keys}
use Rattle.kl_kit.specs.KitLines.{KitLine, statements}
use Rattle.kl_kit.specs.Keywords.{has_lines}
use Rattle.kl_kit.specs.declared.keyword.Keyword.{Keyword}
use Rattle.kl_model.specs.declared.kit.KitKind.{KitKind}
use Rattle.kl_kit.specs.KitTexts.{is_kind, one, many, kind_said, output_said, base_said, entry_said, input_said, run_said, edge_said, drop_said, needed_said, export_said, soname_said, symbolic_said, refuse_said}
use Rattle.kl_kit.specs.declared.fault.KitFault.{KitFault}
use Rattle.kl_kit.specs.declared.fault.KitError.{KitError}
use Rattle.kl_kit.specs.declared.fault.KitError.TheVariants as error
use Rattle.kl_kit.specs.declared.key.Keys.{Keys}
use Rattle.kl_kit.specs.declared.line.Line.{Line}
use Rattle.kl_kit.specs.declared.parts.Parts.{Parts}
use Rattle.kl_kit.specs.declared.read.Reader.{Reader}
use Rattle.kl_kit.specs.declared.statement.Statement.{Statement}
use Rattle.kl_kit.specs.declared.statement.Statement.TheVariants as says

-- an error is the first of these faults, or want of memory
abbrev pub IsFirst : List KitFault → KitError → Type 0
IsFirst faults (error.Fault fault) = slice_get faults 0 ≡ Some fault
IsFirst faults error.NoMemory = Unit {0}

-- the line that is meant
abbrev pub said_line : Line → KitLine
said_line l = record { number = l.number; keyword = l.keyword.now; words = words l.rest.now }

-- a key as it is kept
abbrev pub SeenKey : Type 0
SeenKey = Bor (List ℕ) × Bor (List ℕ) × Bor (List ℕ)

-- the order of keys
abbrev pub key_order : Key → SeenKey → Ordering
key_order q k = ordering_then (ordering_then (slice_cmp nat_cmp q.0 k.0.now) (slice_cmp nat_cmp q.1 k.1.now)) (slice_cmp nat_cmp q.2 k.2.now)

-- whether a key is kept
abbrev pub has : Keys → Key → Bool
has keys q = contains_by (key_order q) keys.seen

-- these keys are kept and no others
abbrev pub HasKeys : Keys → List Key → Type 0
HasKeys keys ks = (q : Key) → has keys q ≡ has_key ks q

-- the parts of a kit that statements say
abbrev pub parts_of : List Statement → Parts
parts_of ss = record {
  kind = one kind_said ss;
  output = one output_said ss;
  base = one base_said ss;
  entry = one entry_said ss;
  inputs = many input_said ss;
  runs = many run_said ss;
  edges = many edge_said ss;
  drops = many drop_said ss;
  needed = many needed_said ss;
  exports = many export_said ss;
  soname = one soname_said ss;
  symbolic = unwrap_or (one symbolic_said ss) false;
  refuse = unwrap_or (one refuse_said ss) false;
}

-- the parts with what one more line says
abbrev pub also : Parts → Statement → Parts
also parts (says.Kind kind) = record parts { kind = Some kind }
also parts (says.Output name) = record parts { output = Some name }
also parts (says.Base n) = record parts { base = Some n }
also parts (says.Entry symbol) = record parts { entry = Some symbol }
also parts (says.Input input) = record parts { inputs = parts.inputs ++ input ∷ [] }
also parts (says.Run run) = record parts { runs = parts.runs ++ run ∷ [] }
also parts (says.Edge edge) = record parts { edges = parts.edges ++ edge ∷ [] }
also parts (says.Drop section) = record parts { drops = parts.drops ++ section ∷ [] }
also parts (says.Soname text) = record parts { soname = Some text }
also parts (says.Needed text) = record parts { needed = parts.needed ++ text ∷ [] }
also parts (says.Export symbol) = record parts { exports = parts.exports ++ symbol ∷ [] }
also parts says.Symbolic = record parts { symbolic = true }
also parts (says.Undefined refuse) = record parts { refuse = refuse }

-- a line stands in its place behind lines that say the kit's kind, or behind none
abbrev pub stands_at : Option KitKind → Keyword → Bool
stands_at None k = is_kind k
stands_at (Some kind) k = not (is_kind k) && has_lines kind k

-- A reader has read these lines: the kit's kind is said by the first.
pub record HasRead (reader : Reader) (before : List KitLine) : Type 0 where
  pub keys : HasKeys reader.keys (flat_map line_keys before)
  pub parts : reader.parts ≡ parts_of (statements before)
  pub first : is_empty before ≡ is_none reader.parts.kind
