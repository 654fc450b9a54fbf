-- The causes in words.
use Rattle.std.specs.Prelude.{ℕ, List, codes}
use Rattle.posix_regex.specs.declared.fault.RegexCause.{RegexCause}
use Rattle.posix_regex.specs.declared.fault.RegexCause.TheVariants.{BadBracket, BadClass, BadRepeat, BadGroup, Trailing, Unsupported, TooDeep, TooBig, OutOfMemory}

-- the text of a cause
abbrev pub text_of : RegexCause → List ℕ
text_of BadBracket = codes "bad bracket"
text_of BadClass = codes "unknown class"
text_of BadRepeat = codes "bad repetition"
text_of BadGroup = codes "bad group"
text_of Trailing = codes "trailing backslash"
text_of Unsupported = codes "unsupported construct"
text_of TooDeep = codes "groups too deep"
text_of TooBig = codes "expression too big"
text_of OutOfMemory = codes "out of memory"
