-- The marks of the two lists.
use Rattle.std.specs.Prelude.{ℕ}
use Rattle.byte_feed.specs.Front.{Format}
use Rattle.path_list.specs.declared.mark.Mark.{Mark}
use Rattle.path_list.specs.declared.mark.Mark.TheVariants.{Newline, Zero}
use Rattle.path_list.specs.Items.{list_by}

abbrev pub byte_of : Mark → ℕ
byte_of Newline = 10
byte_of Zero = 0

-- paths that are ended by newlines
abbrev pub list : Format
list = list_by 10

-- paths that are ended by zero bytes
abbrev pub list0 : Format
list0 = list_by 0
