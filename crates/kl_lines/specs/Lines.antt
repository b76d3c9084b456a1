-- THE LINES THAT A COMMAND WRITES, each ended by a newline: what was done, or why it wasn't. Numbers are decimal.
use Rattle.std.specs.Prelude.{ℕ, List, [], ◌++◌, codes, decimal, Option, Some, None}
use Rattle.hex.specs.Hex.{encode_lower}
use Rattle.kl_digest.specs.declared.record.RecordFault.{RecordFault}
use Rattle.kl_digest.specs.declared.record.RecordFault.TheVariants as fault
use Rattle.kl_install.specs.declared.recover.SlotEnd.{SlotEnd}
use Rattle.kl_install.specs.declared.recover.SlotEnd.TheVariants.{Nothing, Completed, Foreign, BadIntent}
use Rattle.kl_intent.specs.IntentText.{slot_name}
use Rattle.kl_kit.specs.declared.fault.KitFault.{KitFault}
use Rattle.kl_kit.specs.declared.fault.KitFault.TheVariants as kit
use Rattle.kl_model.specs.declared.graph.FieldAt.{FieldAt}
use Rattle.kl_model.specs.declared.link.LinkFault.{LinkFault}
use Rattle.kl_model.specs.declared.link.LinkFault.TheVariants as link
use Rattle.kl_jobs.specs.declared.cause.Cause.{Cause}
use Rattle.kl_jobs.specs.declared.cause.Cause.TheVariants as cause
use Rattle.kl_jobs.specs.declared.cause.KitCause.{KitCause}
use Rattle.kl_jobs.specs.declared.cause.KitCause.TheVariants.{Absent, Kind, Text, TooLong, Total}
use Rattle.kl_jobs.specs.declared.cause.RecordCause.{RecordCause}
use Rattle.kl_jobs.specs.declared.cause.RecordCause.TheVariants as record_cause
use Rattle.kl_link.specs.declared.report.Report.{Report}
use Rattle.kl_lines.specs.Escaped.{escaped}

-- WHAT WAS DONE: some words, and what is told of an image
abbrev pub report_line : List ℕ → List ℕ → Report → List ℕ
report_line first then r =
    first ++ (then ++ (codes " pieces " ++ (decimal r.pieces ++ (codes " fields " ++ (decimal r.fields ++ (codes " bytes " ++ (decimal r.bytes
    ++ (codes " sha256 " ++ (encode_lower r.digest ++ codes "\n")))))))))

-- a kit was linked in its own folder
abbrev pub link_line : List ℕ → Report → List ℕ
link_line dir r = report_line dir (codes " linked") r

-- the kernel was linked and installed
abbrev pub kernel_line : Report → List ℕ
kernel_line r = report_line (codes "/bsd") (codes " relinked") r

-- a kit of some objects was made in memory and linked
abbrev pub generate_line : ℕ → Report → List ℕ
generate_line count r = report_line (codes "generated ") (decimal count) r

-- HOW A RECOVERY ENDED: how each slot did, the kernel's first
abbrev pub slot_number_line : List ℕ → List ℕ → ℕ → List ℕ
slot_number_line slot words number = slot ++ (words ++ (decimal number ++ codes "\n"))

abbrev pub slot_line : List ℕ → SlotEnd → List ℕ
slot_line slot Nothing = slot ++ codes " nothing pending\n"
slot_line slot (Completed files) = slot_number_line slot (codes " completed ") files
slot_line slot (Foreign entry target temp) = slot_number_line slot (codes " foreign entry ") entry
slot_line slot (BadIntent line) = slot_number_line slot (codes " bad intent line ") line

abbrev pub slot_lines : SlotEnd → SlotEnd → List ℕ
slot_lines kernel libs = slot_line (codes "kernel") kernel ++ slot_line (codes "libs") libs

-- some words and the name of a file, or a number
abbrev pub file_line : List ℕ → List ℕ → List ℕ
file_line words name = words ++ (name ++ codes "\n")

abbrev pub numbered_line : List ℕ → ℕ → List ℕ
numbered_line words number = words ++ (decimal number ++ codes "\n")

-- the number of a fault of a record, and why the record isn't read
abbrev pub record_fault_number : RecordFault → ℕ
record_fault_number (fault.Length found) = 1
record_fault_number (fault.Text place) = 2
record_fault_number (fault.Digit place) = 3
record_fault_number fault.End = 4

abbrev pub record_line : RecordCause → List ℕ
record_line record_cause.Absent = codes "relink: record absent\n"
record_line (record_cause.Flaw f) = numbered_line (codes "relink: record flaw ") (record_fault_number f)

-- that the kernel doesn't match its record: both digests, or that there is no kernel
abbrev pub digest_words : List ℕ → List ℕ → List ℕ → List ℕ
digest_words first digest then = first ++ (encode_lower digest ++ then)

abbrev pub found_words : Option (List ℕ) → List ℕ
found_words None = codes "absent\n"
found_words (Some found) = digest_words [] found (codes "\n")

abbrev pub mismatch_line : List ℕ → Option (List ℕ) → List ℕ
mismatch_line recorded found = digest_words (codes "relink: /bsd does not match: recorded ") recorded (codes " found ") ++ found_words found

-- the number of a fault of a kit text, and its line, which is 0 for what is missing
abbrev pub kit_fault_number : KitFault → ℕ
kit_fault_number (kit.Byte l) = 1
kit_fault_number (kit.Keyword l) = 2
kit_fault_number (kit.Misplaced l) = 3
kit_fault_number (kit.Count l) = 4
kit_fault_number (kit.Value l) = 5
kit_fault_number (kit.Reserved l) = 6
kit_fault_number (kit.Twice l) = 7
kit_fault_number (kit.Limit l) = 8
kit_fault_number (kit.Missing what) = 9

abbrev pub kit_fault_place : KitFault → ℕ
kit_fault_place (kit.Byte l) = l
kit_fault_place (kit.Keyword l) = l
kit_fault_place (kit.Misplaced l) = l
kit_fault_place (kit.Count l) = l
kit_fault_place (kit.Value l) = l
kit_fault_place (kit.Reserved l) = l
kit_fault_place (kit.Twice l) = l
kit_fault_place (kit.Limit l) = l
kit_fault_place (kit.Missing what) = 0

abbrev pub kit_fault_line : KitFault → List ℕ
kit_fault_line f = codes "relink: kit fault " ++ (decimal (kit_fault_number f) ++ (codes " line " ++ (decimal (kit_fault_place f) ++ codes "\n")))

-- why a kit isn't read
abbrev pub kit_line : KitCause → List ℕ
kit_line (Text f) = kit_fault_line f
kit_line (Absent name) = file_line (codes "relink: absent ") name
kit_line (TooLong name) = file_line (codes "relink: too long ") name
kit_line Kind = codes "relink: wrong kind\n"
kit_line (Total what line) = numbered_line (codes "relink: over limit line ") line

-- why an object or an archive isn't read, by its number and its line in the kit text
abbrev pub object_line : ℕ → ℕ → List ℕ
object_line input line = codes "relink: object " ++ (decimal input ++ (codes " line " ++ (decimal line ++ codes "\n")))

-- a fault of a link has its number, and the name of a symbol
abbrev pub link_start : ℕ → List ℕ
link_start number = codes "relink: link fault " ++ decimal number ++ codes " "

abbrev pub named_line : ℕ → List ℕ → List ℕ
named_line number name = link_start number ++ (escaped name ++ codes "\n")

-- or a relocation entry, by its input, its section there and its number there
abbrev pub entry_place : FieldAt → List ℕ
entry_place from =
    codes "input " ++ (decimal from.input ++ (codes " section " ++ (decimal from.section ++ (codes " entry " ++ (decimal from.index ++ codes "\n")))))

abbrev pub entry_line : ℕ → FieldAt → List ℕ
entry_line number from = link_start number ++ entry_place from

-- or the span of the image, in bytes, that passes the limit
abbrev pub span_line : ℕ → List ℕ
span_line found = codes "relink: link fault 10 found " ++ decimal found ++ codes "\n"

-- why a kit isn't linked
abbrev pub link_fault_line : LinkFault → List ℕ
link_fault_line (link.Undefined name from) = named_line 1 name
link_fault_line (link.Doubled name first second) = named_line 2 name
link_fault_line (link.Kind from number) = entry_line 3 from
link_fault_line (link.Range from s a p) = entry_line 4 from
link_fault_line (link.NotFixed from) = entry_line 5 from
link_fault_line (link.ReadOnlyField from) = entry_line 6 from
link_fault_line (link.Removed from) = entry_line 7 from
link_fault_line (link.NoEntry name) = named_line 8 name
link_fault_line (link.EdgeClash name) = named_line 9 name
link_fault_line (link.Span found limit) = span_line found
link_fault_line link.NoMemory = codes "relink: out of memory\n"

-- the line for words that are no command
abbrev pub usage_line : List ℕ
usage_line = codes "usage: relink link DIR | reorder_kernel | reorder_libs | recover | generate N; --seed HEX may end all but recover\n"

-- WHY A COMMAND ENDED; nothing is written where all was done, and of a recovery, whose lines are those of its slots
abbrev pub cause_line : Cause → List ℕ
cause_line cause.Done = []
cause_line cause.Usage = usage_line
cause_line cause.NoMemory = codes "relink: out of memory\n"
cause_line cause.Store = codes "relink: store fault\n"
cause_line cause.Entropy = codes "relink: entropy fault\n"
cause_line cause.Sink = []
cause_line (cause.Pending slot) = file_line (codes "relink: intent pending ") (slot_name slot)
cause_line (cause.Record r) = record_line r
cause_line (cause.Mismatch recorded found) = mismatch_line recorded found
cause_line (cause.Kit c) = kit_line c
cause_line (cause.Object input line f) = object_line input line
cause_line (cause.Link f) = link_fault_line f
cause_line (cause.Foreign slot entry target temp) = []
cause_line (cause.Intent slot line) = []
