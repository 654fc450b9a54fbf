-- More bytes don't change how an item is read, but where a byte past the last one was asked for.
use Rattle.std.proofs.Common.{ℕ, ◌+◌, ◌-◌, Bool, true, false, cond, eqb, ltb, List, length, Ok, Err}
use Rattle.std.specs.Prelude.{pos, negsuc, ℤ, ◌+ℤ◌, nat_le}
use Rattle.std.specs.Int.{w8, w16, cast_signed}
use Rattle.byte_feed.specs.declared.damage.DamageCause.TheVariants.{BadCount, EmptyPath}
use Rattle.byte_feed.specs.declared.damage.Stop.TheVariants.{Broken}
use Rattle.byte_feed.specs.Field.{◌>>=◌, Reads, magic_at, byte_at, number_at, ended_at, max_path}
use Rattle.byte_feed.proofs.Steady.{Steady, bind_steady, pure_steady, stop_steady, demand_steady, byte_steady, number_steady, magic_steady, ended_steady}
use Rattle.locate02_db.specs.declared.change.Change.{Change}
use Rattle.locate02_db.specs.declared.change.Change.TheVariants.{Short, Long}
use Rattle.locate02_db.specs.Items.{Item, PreambleItem, PathItem, magic, amount, State, AtStart, After, long_at, change_from, shared_within, remainder_at, entry_from, entry_at, item_at}

long_steady : Steady long_at
unfolding long_at
long_steady = bind_steady (number_at 2) _ (number_steady 2) (λ number. pure_steady (Long (cast_signed w16 number)))

from_steady : (first : ℕ) (long : Bool) → Steady (λ bytes. cond long (long_at bytes) (Ok (Short (cast_signed w8 first), bytes)))
from_steady first true = long_steady
from_steady first false = pure_steady (Short (cast_signed w8 first))

remainder_steady : (change : Change) (shared : ℕ) → Steady (remainder_at change shared)
remainder_steady change shared =
    bind_steady (ended_at (max_path - shared)) _ (ended_steady (max_path - shared)) (λ text.
    demand_steady (ltb 0 (shared + length text)) EmptyPath _ (λ e. absurd cc) (
    pure_steady (PathItem change text)))

by_test : (n : ℕ) (b : Bool) (read : ℕ → Reads Item) → ((shared : ℕ) → Steady (read shared)) → Steady (λ bytes. cond b (Ok n) (Err (Broken BadCount)) >>= λ shared. read shared bytes)
by_test n true read s = s n
by_test n false read s = stop_steady BadCount (λ e. absurd cc)

-- a reader that goes on behind a shared length
shared_steady : (len : ℕ) (z : ℤ) (read : ℕ → Reads Item) → ((shared : ℕ) → Steady (read shared)) → Steady (λ bytes. shared_within len z >>= λ shared. read shared bytes)
shared_steady len (pos n) read s = by_test n (nat_le n len) read s
shared_steady len (negsuc n) read s = stop_steady BadCount (λ e. absurd cc)

entry_steady : (path : List ℕ) (old : ℕ) → Steady (entry_at path old)
unfolding entry_from
entry_steady path old =
    bind_steady byte_at _ byte_steady (λ first.
    bind_steady (change_from first) _ (from_steady first (eqb first 128)) (λ change.
    shared_steady (length path) (pos old +ℤ amount change) (remainder_at change) (remainder_steady change)))

pub item_steady : (s : State) → Steady (item_at s)
item_steady AtStart = bind_steady (magic_at magic) _ (magic_steady magic) (λ begun. pure_steady PreambleItem)
item_steady (After path old) = entry_steady path old
