-- Archives by computation.
use Rattle.std.specs.Prelude.{ℕ, ◌≡◌, List, [], ◌∷◌, ◌++◌, Some, refl, codes, slice_get}
use Rattle.kl_ar.specs.Fields.{decimal_of, text_of}
use Rattle.kl_ar.specs.Names.{name_form, short_len}
use Rattle.kl_ar.specs.Archives.{faults, header_faults, headers, magic_faults, members_at, members_of, name_faults}
use Rattle.kl_ar.specs.declared.fault.ArFault.TheVariants as fault

-- a symbol index, a table of long names, a member with a name in it, and one of three bytes with its pad
abbrev four : List ℕ
four =
    codes "!<arch>\n"
    ++ codes "/               0           0     0     644     4         `\n1234"
    ++ codes "//              0           0     0     644     14        `\nlong_name.o/\n\n"
    ++ codes "/0              0           0     0     644     2         `\nab"
    ++ codes "a.o/            0           0     0     644     3         `\nxyz\n"

four_sound : faults four ≡ []
unfolding faults magic_faults headers header_faults name_faults text_of decimal_of name_form short_len
four_sound = refl

four_members : members_of four ≡ record { name = record { at = 132; len = 11 }; start = 206; len = 2 } ∷ record { name = record { at = 208; len = 3 }; start = 268; len = 3 } ∷ []
unfolding members_of headers members_at header_faults text_of decimal_of name_form short_len
four_members = refl

size_text : slice_get (faults (codes "!<arch>\na.o/            0           0     0     644     12x       `\n")) 0 ≡ Some (fault.SizeText 56)
unfolding faults magic_faults headers header_faults name_faults text_of decimal_of name_form short_len
size_text = refl

too_long : slice_get (faults (codes "!<arch>\na.o/            0           0     0     644     9999999999`\n")) 0 ≡ Some (fault.Truncated 8)
unfolding faults magic_faults headers header_faults name_faults text_of decimal_of name_form short_len
too_long = refl

short_bsd : slice_get (faults (codes "!<arch>\n#1/20           0           0     0     644     3         `\nabc")) 0 ≡ Some (fault.LongName 8)
unfolding faults magic_faults headers header_faults name_faults text_of decimal_of name_form short_len
short_bsd = refl

-- the magic alone
empty : members_of (codes "!<arch>\n") ≡ []
unfolding members_of headers
empty = refl

empty_sound : faults (codes "!<arch>\n") ≡ []
unfolding faults magic_faults headers
empty_sound = refl
