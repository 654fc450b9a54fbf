-- More bytes don't change how an item is read, but where a byte past the last one was asked for.
use Rattle.std.proofs.Common.{ℕ, zero, suc, eqb, ltb}
use Rattle.byte_feed.specs.declared.damage.DamageCause.TheVariants.{BadVersion, BadFlag, BadNanos, BadKind, EmptyPath, EmptyName}
use Rattle.byte_feed.specs.Field.{magic_at, byte_at, bytes_at, number_at, text_at, max_path}
use Rattle.byte_feed.proofs.Steady.{Steady, bind_steady, pure_steady, stop_steady, demand_steady, byte_steady, bytes_steady, number_steady, magic_steady, text_steady}
use Rattle.path_order.specs.declared.kind.Kind.{Kind}
use Rattle.path_order.specs.declared.kind.Kind.TheVariants.{File, Directory}
use Rattle.mlocate_db.specs.Items.{HeaderItem, HeadItem, EntryItem, EndItem, magic, State, AtStart, Between, Inside, room_in, fixed_at, as_header, header_at, numbers_at, as_head, head_at, name_at, listed_at, entry_at, item_at}

pub fixed_steady : Steady fixed_at
unfolding fixed_at
fixed_steady =
    bind_steady (magic_at magic) _ (magic_steady magic) (λ begun.
    bind_steady (number_at 4) _ (number_steady 4) (λ size.
    bind_steady byte_at _ byte_steady (λ version.
    demand_steady (ltb version 2) BadVersion _ (λ e. absurd cc) (
    bind_steady byte_at _ byte_steady (λ flag.
    demand_steady (ltb flag 2) BadFlag _ (λ e. absurd cc) (
    bind_steady (number_at 2) _ (number_steady 2) (λ padding.
    pure_steady (record { size = size; version = version; flag = eqb flag 1; padding = padding }))))))))

pub numbers_steady : Steady numbers_at
unfolding numbers_at
numbers_steady =
    bind_steady (number_at 8) _ (number_steady 8) (λ seconds.
    bind_steady (number_at 4) _ (number_steady 4) (λ nanos.
    demand_steady (ltb nanos 1000000000) BadNanos _ (λ e. absurd cc) (
    bind_steady (number_at 4) _ (number_steady 4) (λ device.
    pure_steady (record { seconds = seconds; nanos = nanos; device = device })))))

pub header_steady : Steady header_at
unfolding header_at
header_steady =
    bind_steady fixed_at _ fixed_steady (λ fixed.
    bind_steady (text_at EmptyPath max_path) _ (text_steady EmptyPath max_path (λ e. absurd cc)) (λ root.
    bind_steady (bytes_at fixed.size) _ (bytes_steady fixed.size) (λ block.
    pure_steady (as_header fixed root block))))

pub head_steady : Steady head_at
unfolding head_at
head_steady =
    bind_steady numbers_at _ numbers_steady (λ numbers.
    bind_steady (text_at EmptyPath max_path) _ (text_steady EmptyPath max_path (λ e. absurd cc)) (λ path.
    pure_steady (as_head numbers path)))

name_steady : (kind : Kind) (room : ℕ) → Steady (name_at kind room)
name_steady kind room = bind_steady (text_at EmptyName room) _ (text_steady EmptyName room (λ e. absurd cc)) (λ name. pure_steady (EntryItem kind name))

listed_steady : (room n : ℕ) → Steady (listed_at room n)
listed_steady room zero = name_steady File room
listed_steady room (suc zero) = name_steady Directory room
listed_steady room (suc (suc zero)) = pure_steady EndItem
listed_steady room (suc (suc (suc n))) = stop_steady BadKind (λ e. absurd cc)

pub entry_steady : (room : ℕ) → Steady (entry_at room)
unfolding entry_at
entry_steady room = bind_steady byte_at _ byte_steady (λ kind. listed_steady room kind)

pub item_steady : (s : State) → Steady (item_at s)
item_steady AtStart = bind_steady header_at _ header_steady (λ header. pure_steady (HeaderItem header))
item_steady (Between version) = bind_steady head_at _ head_steady (λ head. pure_steady (HeadItem head))
item_steady (Inside version path) = entry_steady (room_in path)
