-- The character classes of bracket expressions in the POSIX locale.
use Rattle.std.specs.Prelude.{ℕ, Bool, false, ◌||◌, ◌&&◌, ◌==◌, not, List, drop, Option, Some, None, codes, if◌then◌else◌, nat_eq}
use Rattle.std.specs.Int.{is_in_range}
use Rattle.std.specs.List.{starts_with, prefix_len}
use Rattle.std.specs.Str.{bytes_eq}
use Rattle.byte_class.specs.declared.class.Class.{Class}
use Rattle.byte_class.specs.declared.class.Class.TheVariants.{Alpha, Digit, Alnum, Lower, Upper, Xdigit, Blank, Space, Cntrl, Graph, Print, Punct}

-- the class of a name
unfoldable pub class_named : List ℕ → Option Class
class_named name =
    if bytes_eq name (codes "alpha") then Some Alpha
    else (if bytes_eq name (codes "digit") then Some Digit
    else (if bytes_eq name (codes "alnum") then Some Alnum
    else (if bytes_eq name (codes "lower") then Some Lower
    else (if bytes_eq name (codes "upper") then Some Upper
    else (if bytes_eq name (codes "xdigit") then Some Xdigit
    else (if bytes_eq name (codes "blank") then Some Blank
    else (if bytes_eq name (codes "space") then Some Space
    else (if bytes_eq name (codes "cntrl") then Some Cntrl
    else (if bytes_eq name (codes "graph") then Some Graph
    else (if bytes_eq name (codes "print") then Some Print
    else (if bytes_eq name (codes "punct") then Some Punct
    else None)))))))))))

-- whether a byte is a letter, and a letter or a digit
abbrev pub is_alpha : ℕ → Bool
is_alpha byte = is_in_range 65 90 byte || is_in_range 97 122 byte

abbrev pub is_alnum : ℕ → Bool
is_alnum byte = is_in_range 48 57 byte || is_alpha byte

-- whether a class has a byte; none has one from 128 up
unfoldable pub class_has : Class → ℕ → Bool
class_has Alpha byte = is_alpha byte
class_has Digit byte = is_in_range 48 57 byte
class_has Alnum byte = is_alnum byte
class_has Lower byte = is_in_range 97 122 byte
class_has Upper byte = is_in_range 65 90 byte
class_has Xdigit byte = is_in_range 48 57 byte || (is_in_range 65 70 byte || is_in_range 97 102 byte)
class_has Blank byte = byte == 9 || byte == 32
class_has Space byte = is_in_range 9 13 byte || byte == 32
class_has Cntrl byte = is_in_range 0 31 byte || byte == 127
class_has Graph byte = is_in_range 33 126 byte
class_has Print byte = is_in_range 32 126 byte
class_has Punct byte = is_in_range 33 126 byte && not (is_alnum byte)

-- whether the class of a name, if there is one, has a byte
unfoldable pub name_has : Option Class → ℕ → Bool
name_has None byte = false
name_has (Some class) byte = class_has class byte

-- the length of the name of the class that stands first, as `[:`, letters, `:]`
unfoldable pub class_at : List ℕ → Option ℕ
class_at text =
    let inside = drop 2 text in
    let letters = prefix_len is_alpha inside in
    if starts_with nat_eq text (codes "[:") && starts_with nat_eq (drop letters inside) (codes ":]")
    then Some letters else None
