-- A whole database is read back, for every format that keeps its laws.
use Rattle.std.proofs.Common.{◌≡◌, ℕ, ◌+◌, true, false, List, [], length, take, sym, ap, ◌∙◌, arith}
use Rattle.std.proofs.lemmas.Bool.{lt-leb}
use Rattle.std.proofs.lemmas.List.{append-nil, take_all}
use Rattle.byte_feed.specs.Front.{Format, spelling, left_by, limit, readable, IsDatabase, items_within, items_of, front, Shrinks, Laws}
use Rattle.byte_feed.specs.Paths.{rest_of, as_paths, contents, given_by}
use Rattle.byte_feed.proofs.Fronts.{items_begin}
use Rattle.byte_feed.proofs.Endings.{ends_from}

-- its items are the front of its spelling
pub database_front : (f : Format) → Shrinks f → Laws f → (items : List f.Item) → IsDatabase f items → front f (spelling f items) ≡ items
unfolding items_of items_within
database_front f sh laws items db =
    let file : List ℕ = spelling f items in
    let last : (readable file).more ≡ false = lt-leb limit (length file) db.below in
    let all : take limit file ≡ file = take_all limit file (omega (arith, db.below)) in
    rw (last, all) (items_begin f sh laws items true f.begin file [] db.rules (sym (append-nil file)) ∙ append-nil items)

-- and the file ends whole behind them
pub database_given : (f : Format) → Shrinks f → Laws f → (items : List f.Item) → IsDatabase f items → contents f (spelling f items) ≡ given_by f items
unfolding rest_of
database_given f sh laws items db =
    let is = database_front f sh laws items db in
    let ends = ends_from f (spelling f items) (record { below = db.below; spelled = ap (spelling f) is; may = ap (λ (l : List f.Item). f.may_end (left_by f f.begin l)) is ∙ db.may_end }) in
    let place : 0 + length (spelling f (front f (spelling f items))) ≡ length (spelling f items) = omega (arith, ap (λ (l : List f.Item). length (spelling f l)) is) in
    λ i. as_paths f f.begin 0 0 (record { items = is i; ending = ends i; place = place i })
