-- The causes in words.
use Rattle.std.specs.Prelude.{ℕ, List, codes}
use Rattle.updatedb_conf.specs.declared.fault.ConfCause.{ConfCause}
use Rattle.updatedb_conf.specs.declared.fault.ConfCause.TheVariants.{NoEquals, NoQuote, Unclosed, Trailing, Unknown, Repeated, BadFlag, BadName, OutOfMemory, LongText, BadMargin}

-- the text of a cause
abbrev pub text_of : ConfCause → List ℕ
text_of NoEquals = codes "no equals sign"
text_of NoQuote = codes "no opening quote"
text_of Unclosed = codes "no closing quote"
text_of Trailing = codes "text after the value"
text_of Unknown = codes "unknown variable"
text_of Repeated = codes "variable defined twice"
text_of BadFlag = codes "bad flag"
text_of BadName = codes "slash in a name"
text_of OutOfMemory = codes "out of memory"
text_of LongText = codes "file too long"
text_of BadMargin = codes "bad margin"
