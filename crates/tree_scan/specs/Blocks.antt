-- The bytes of a complete scan, and the lines that are echoed beside it.
use Rattle.std.specs.Prelude.{ℕ, Bool, map, ◌==◌, List, [], ◌∷◌, ◌++◌, if◌then◌else◌}
use Rattle.std.specs.List.{flat_map}
use Rattle.path_order.specs.declared.kind.Kind.{Kind}
use Rattle.path_order.specs.NameList.{Listed}
use Rattle.path_order.specs.Path.{joined}
use Rattle.path_order.specs.Stamp.{Moment, later_of, is_recent}
use Rattle.loc_outside.specs.declared.traits.tree.Times.{Times}
use Rattle.loc_outside.specs.Trees.{Dir, Dirs}
use Rattle.mlocate_db.specs.Items.{HeaderItem, HeadItem, EntryItem, EndItem, spell}
use Rattle.tree_scan.specs.Admitted.{admitted}
use Rattle.tree_scan.specs.Plan.{Plan}
use Rattle.tree_scan.specs.Reach.{reached}

-- when a directory changed: the later of its times
abbrev pub time_of : Times → Moment
time_of times = later_of times.modified times.changed

abbrev pub zero_moment : Moment
zero_moment = record { seconds = 0; nanos = 0 }

-- the time that is written, which is zero where it is recent
abbrev pub stamped : ℕ → Moment → Moment → Moment
stamped margin time now = if is_recent time now margin then zero_moment else time

-- the device that is written: none in version 0
abbrev pub device_in : Plan → List ℕ → ℕ
device_in plan path = if plan.version == 1 then plan.device_of path else 0

-- the header
unfoldable pub header : Plan → List ℕ
header plan = spell (HeaderItem (record { version = plan.version; flag = plan.flag; padding = 0; root = plan.root; block = plan.block }))

-- the head of a block
unfoldable pub head_text : Moment → ℕ → List ℕ → List ℕ
head_text stamp device path = spell (HeadItem (record { seconds = stamp.seconds; nanos = stamp.nanos; device = device; path = path }))

abbrev pub entry_text : List ℕ × Kind → List ℕ
entry_text entry = spell (EntryItem entry.1 entry.0)

-- a block: a head, the entries of the names, and the end
abbrev pub block_text : Moment → ℕ → List ℕ → Listed → List ℕ
block_text stamp device path names = head_text stamp device path ++ flat_map entry_text names ++ spell EndItem

-- the block of a directory
abbrev pub block : Plan → Moment → List ℕ × Dir → List ℕ
block plan now e = block_text (stamped plan.margin (time_of e.1.times) now) (device_in plan e.0) e.0 (admitted e.0 e.1)

-- the bytes of a complete scan: the header, and the blocks of the reached directories in path order
abbrev pub scan_text : Dirs → Plan → Moment → List ℕ
scan_text dirs plan now = header plan ++ flat_map (block plan now) (reached dirs plan.pruned plan.root)

-- the admitted names of these directories
abbrev pub entries_of : List (List ℕ × Dir) → Listed
entries_of dirs = flat_map (λ e. admitted e.0 e.1) dirs

-- a path and a newline
abbrev pub line : List ℕ → List ℕ × Kind → List ℕ
line path entry = joined path entry.0 ++ 10 ∷ []

-- the lines of a directory's names, where they are echoed
abbrev pub lines_of : Bool → List ℕ → Listed → List ℕ
lines_of verbose path names = if verbose then flat_map (line path) names else []

abbrev pub lines : Plan → List ℕ × Dir → List ℕ
lines plan e = lines_of plan.verbose e.0 (admitted e.0 e.1)

-- all lines: the paths of the admitted names of each reached directory, in path order
abbrev pub echo_text : Dirs → Plan → List ℕ
echo_text dirs plan = flat_map (lines plan) (reached dirs plan.pruned plan.root)

-- What is written at once, and the line that is echoed after it: the head of a block, each entry with its line, the end.
abbrev pub block_pieces : Bool → Moment → ℕ → List ℕ → Listed → List (List ℕ × List ℕ)
block_pieces verbose stamp device path names =
    (head_text stamp device path, []) ∷ map (λ e. (entry_text e, if verbose then line path e else [])) names ++ (spell EndItem, []) ∷ []

abbrev pub pieces : Plan → Moment → List ℕ × Dir → List (List ℕ × List ℕ)
pieces plan now e = block_pieces plan.verbose (stamped plan.margin (time_of e.1.times) now) (device_in plan e.0) e.0 (admitted e.0 e.1)

-- the pieces of a complete scan: the header, and those of the blocks
abbrev pub scan_pieces : Dirs → Plan → Moment → List (List ℕ × List ℕ)
scan_pieces dirs plan now = (header plan, []) ∷ flat_map (pieces plan now) (reached dirs plan.pruned plan.root)
