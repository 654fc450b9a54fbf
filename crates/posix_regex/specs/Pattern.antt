-- What a pattern stands for, or why it is refused.
use Rattle.std.specs.Prelude.{ℕ, zero, suc, ◌+◌, ◌-◌, ◌==◌, nat_lt, Bool, true, List, [], ◌∷◌, length, Option, Some, None, Result, Ok, Err, if◌then◌else◌}
use Rattle.posix_regex.specs.declared.fault.RegexCause.{RegexCause}
use Rattle.posix_regex.specs.declared.fault.RegexCause.TheVariants.{BadRepeat, BadGroup, TooDeep, TooBig}
use Rattle.posix_regex.specs.declared.fault.RegexFault.{RegexFault}
use Rattle.posix_regex.specs.Expression.{Expression, Empty, Then, Or, Repeat, size}
use Rattle.posix_regex.specs.Token.{Token, Atom, Suffix, Bar, Open, Close, token_at, begins_after, bare_after}
use Rattle.posix_regex.specs.Bracket.{on_ok}

-- what was read of one group, or of the pattern outside all groups: the place of its mark, the branches before the last
-- bar, the last branch without its last piece, and that piece
pub record Group : Type 0 where
  pub mark : ℕ
  pub branches : Option Expression
  pub branch : Expression
  pub piece : Option Expression

abbrev pub group_at : ℕ → Group
group_at mark = record { mark = mark; branches = None; branch = Empty; piece = None }

-- a branch and the piece that ends it, if there is one
abbrev pub with_piece : Expression → Option Expression → Expression
with_piece branch None = branch
with_piece branch (Some piece) = Then branch piece

-- the branches before, if there are any, or this one
abbrev pub with_branch : Option Expression → Expression → Expression
with_branch None branch = branch
with_branch (Some branches) branch = Or branches branch

-- the expression of a group
abbrev pub expression_of : Group → Expression
expression_of group = with_branch group.branches (with_piece group.branch group.piece)

-- the group with one more atom
abbrev pub add_atom : Expression → Group → Group
add_atom atom group =
    record { mark = group.mark; branches = group.branches; branch = with_piece group.branch group.piece; piece = Some atom }

-- the group after a bar
abbrev pub add_bar : Group → Group
add_bar group = record { mark = group.mark; branches = Some (expression_of group); branch = Empty; piece = None }

-- the group with another last piece
abbrev pub with_last : Expression → Group → Group
with_last piece group = record { mark = group.mark; branches = group.branches; branch = group.branch; piece = Some piece }

-- the last piece repeated, if there is one
abbrev pub repeat_piece : ℕ → Option ℕ → Option Expression → Result Expression RegexCause
repeat_piece least more None = Err BadRepeat
repeat_piece least more (Some piece) = Ok (Repeat piece least more)

-- what was read of a pattern: the innermost open group, or the pattern where none is open, and those around it, the
-- innermost first
pub record Reading : Type 0 where
  pub inner : Group
  pub outer : List Group

abbrev pub nothing_read : Reading
nothing_read = record { inner = group_at 0; outer = [] }

-- a group is closed and becomes an atom of the one around it
abbrev pub close : Expression → List Group → Result Reading RegexCause
close group [] = Err BadGroup
close group (inner ∷ outer) = Ok (record { inner = add_atom group inner; outer = outer })

-- the token at a place is added
abbrev pub add_token : ℕ → Token → Reading → Result Reading RegexCause
add_token place (Atom atom) read = Ok (record { inner = add_atom atom read.inner; outer = read.outer })
add_token place (Suffix least more) read =
    on_ok (repeat_piece least more read.inner.piece) (λ piece. Ok (record {
      inner = with_last piece read.inner;
      outer = read.outer;
    }))
add_token place Bar read = Ok (record { inner = add_bar read.inner; outer = read.outer })
add_token place Open read =
    if length read.outer == 64 then Err TooDeep
    else Ok (record { inner = group_at place; outer = read.inner ∷ read.outer })
add_token place Close read = close (expression_of read.inner) read.outer

-- the expression of the whole pattern, where no group is open
abbrev pub finish : Group → List Group → Result Expression RegexFault
finish inner [] = Ok (expression_of inner)
finish inner (group ∷ outer) = Err (record { place = inner.mark; cause = BadGroup })

-- a fault at this place, and one whose place counts from there
abbrev pub fault_at : {A : Type 0} → ℕ → Result A RegexCause → Result A RegexFault
fault_at place (Ok read) = Ok read
fault_at place (Err cause) = Err (record { place = place; cause = cause })

abbrev pub fault_from : {A : Type 0} → ℕ → Result A (ℕ × RegexCause) → Result A RegexFault
fault_from place (Ok read) = Ok read
fault_from place (Err fault) = Err (record { place = place + fault.0; cause = fault.1 })

-- past `skip` bytes of the text, which begins at a place, what the whole pattern stands for
unfoldable pub read_from : Bool → Bool → ℕ → ℕ → List ℕ → Bool → Bool → Reading → Result Expression RegexFault
read_from extended fold place skip [] begins bare read = finish read.inner read.outer
read_from extended fold place (suc skip) (x ∷ text) begins bare read =
    read_from extended fold (place + 1) skip text begins bare read
read_from extended fold place zero (x ∷ text) begins bare read =
    on_ok (fault_from place (token_at extended fold begins bare (x ∷ text))) (λ t.
    on_ok (fault_at place (add_token place t.0 read)) (λ more.
    read_from extended fold (place + 1) (t.1 - 1) text (begins_after t.0) (bare_after t.0) more))

-- an expression that is not too big
abbrev pub small_enough : Expression → Result Expression RegexFault
small_enough expression =
    if nat_lt 4096 (size expression) then Err (record { place = 0; cause = TooBig }) else Ok expression

-- what a pattern stands for
unfoldable pub expression_at : Bool → Bool → List ℕ → Result Expression RegexFault
expression_at extended fold pattern = on_ok (read_from extended fold 0 0 pattern true true nothing_read) small_enough
