-- A file that ends as no database has no format.
use Rattle.std.proofs.Common.{◌≡◌, ℕ, Bool, true, false, cond, not, List, Some, None, Ok, Err, refl, ap, subst, ◌∙◌}
use Rattle.std.specs.Prelude.{nat_eq, unwrap_or, if◌then◌else◌}
use Rattle.std.specs.List.{starts_with}
use Rattle.byte_feed.specs.declared.damage.DbFault.TheVariants as faults
use Rattle.byte_feed.specs.declared.damage.Stop.TheVariants.{NotADatabase}
use Rattle.byte_feed.specs.Front.{Window}
use Rattle.byte_feed.proofs.Fields.{seq}
use Rattle.mlocate_db.specs.Items as mlocate
use Rattle.locate02_db.specs.Items as locate02
use Rattle.bigram_db.specs.Pairs.{is_bigram}
use Rattle.bigram_db.specs.Items as bigram
use Rattle.any_db.specs.declared.format.DatabaseFormat.{DatabaseFormat}
use Rattle.any_db.specs.declared.format.DatabaseFormat.TheVariants.{Mlocate, Locate02, Bigram}
use Rattle.any_db.specs.Formats.{format_of, read_as, to_come_in, to_come_by}
use Rattle.any_db.proofs.Named.{bigram_or_none}
use Rattle.any_db.proofs.Refusals.{never_bind, never_head, never_entry, never_after, never_behind, no_mlocate, no_locate02, no_table, no_first}

-- ---- what has begun refuses no more

MlocateBegun : mlocate.State → Type 0
MlocateBegun mlocate.AtStart = ⊥
MlocateBegun s = Unit {0}

mlocate_first : (last : Bool) (bytes : List ℕ) (x : mlocate.Item × List ℕ) → mlocate.item_at mlocate.AtStart bytes ≡ Ok x → MlocateBegun (mlocate.after mlocate.AtStart x.0)
unfolding MlocateBegun
mlocate_first last bytes x e =
    seq (mlocate.header_at bytes) _ x _ e (λ (h : mlocate.Header × List ℕ) e1 k1.
    let is : (mlocate.HeaderItem h.0, h.1) ≡ x = cc in subst (λ (y : mlocate.Item × List ℕ). MlocateBegun (mlocate.after mlocate.AtStart y.0)) is tt)

mlocate_keeps : (s : mlocate.State) (i : mlocate.Item) → MlocateBegun s → MlocateBegun (mlocate.after s i)
unfolding MlocateBegun
mlocate_keeps mlocate.AtStart i b = absurd b
mlocate_keeps (mlocate.Between v) (mlocate.HeaderItem h) b = tt
mlocate_keeps (mlocate.Between v) (mlocate.HeadItem h) b = tt
mlocate_keeps (mlocate.Between v) (mlocate.EntryItem kind name) b = tt
mlocate_keeps (mlocate.Between v) mlocate.EndItem b = tt
mlocate_keeps (mlocate.Inside v path) (mlocate.HeaderItem h) b = tt
mlocate_keeps (mlocate.Inside v path) (mlocate.HeadItem h) b = tt
mlocate_keeps (mlocate.Inside v path) (mlocate.EntryItem kind name) b = tt
mlocate_keeps (mlocate.Inside v path) mlocate.EndItem b = tt

mlocate_never : (last : Bool) (s : mlocate.State) (bytes : List ℕ) → MlocateBegun s → mlocate.item_at s bytes ≡ Err NotADatabase → ⊥
unfolding MlocateBegun
mlocate_never last mlocate.AtStart bytes b e = b
mlocate_never last (mlocate.Between v) bytes b e = never_bind (mlocate.head_at bytes) _ (never_head bytes) (λ head o. absurd cc) e
mlocate_never last (mlocate.Inside v path) bytes b e = never_entry (mlocate.room_in path) bytes e

Locate02Begun : locate02.State → Type 0
Locate02Begun locate02.AtStart = ⊥
Locate02Begun s = Unit {0}

locate02_first : (last : Bool) (bytes : List ℕ) (x : locate02.Item × List ℕ) → locate02.item_at locate02.AtStart bytes ≡ Ok x → Locate02Begun (locate02.after locate02.AtStart x.0)
unfolding Locate02Begun
locate02_first last bytes x e = tt

locate02_keeps : (s : locate02.State) (i : locate02.Item) → Locate02Begun s → Locate02Begun (locate02.after s i)
unfolding Locate02Begun
locate02_keeps locate02.AtStart i b = absurd b
locate02_keeps (locate02.After path old) locate02.PreambleItem b = tt
locate02_keeps (locate02.After path old) (locate02.PathItem change remainder) b = tt

locate02_never : (last : Bool) (s : locate02.State) (bytes : List ℕ) → Locate02Begun s → locate02.item_at s bytes ≡ Err NotADatabase → ⊥
unfolding Locate02Begun
locate02_never last locate02.AtStart bytes b e = b
locate02_never last (locate02.After path old) bytes b e = never_after path old bytes e

BigramBegun : bigram.State → Type 0
BigramBegun bigram.AtStart = ⊥
BigramBegun s = Unit {0}

bigram_first : (last : Bool) (bytes : List ℕ) (x : bigram.Item × List ℕ) → bigram.item_at last bigram.AtStart bytes ≡ Ok x → BigramBegun (bigram.after bigram.AtStart x.0)
unfolding BigramBegun
bigram_first last bytes x e =
    seq (bigram.table_at bytes) _ x _ e (λ (t : List ℕ × List ℕ) e1 k1.
    let is : (bigram.TableItem t.0, t.1) ≡ x = cc in subst (λ (y : bigram.Item × List ℕ). BigramBegun (bigram.after bigram.AtStart y.0)) is tt)

bigram_keeps : (s : bigram.State) (i : bigram.Item) → BigramBegun s → BigramBegun (bigram.after s i)
unfolding BigramBegun
bigram_keeps bigram.AtStart i b = absurd b
bigram_keeps (bigram.After table path old) (bigram.TableItem t) b = tt
bigram_keeps (bigram.After table path old) (bigram.PathItem count units) b = tt

bigram_never : (last : Bool) (s : bigram.State) (bytes : List ℕ) → BigramBegun s → bigram.item_at last s bytes ≡ Err NotADatabase → ⊥
unfolding BigramBegun
bigram_never last bigram.AtStart bytes b e = b
bigram_never last (bigram.After table path old) bytes b e = never_behind last table path old bytes e

-- ---- the format of a file that was refused

read_mlocate : (a b c : Bool) → unwrap_or (if a then Some Mlocate else if b then Some Locate02 else if c then Some Bigram else None) Bigram ≡ Mlocate → a ≡ false → ⊥
read_mlocate true b c e f = absurd cc
read_mlocate false true c e f = absurd cc
read_mlocate false false true e f = absurd cc
read_mlocate false false false e f = absurd cc

read_locate02 : (a b c : Bool) → unwrap_or (if a then Some Mlocate else if b then Some Locate02 else if c then Some Bigram else None) Bigram ≡ Locate02 → b ≡ false → ⊥
read_locate02 true b c e f = absurd cc
read_locate02 false true c e f = absurd cc
read_locate02 false false true e f = absurd cc
read_locate02 false false false e f = absurd cc

only_none : (d : DatabaseFormat) (w : Window) → read_as w.bytes ≡ d → (to_come_by d w).ending ≡ Err faults.NotADatabase → format_of w.bytes ≡ None
unfolding format_of
only_none Mlocate w is e =
    absurd (read_mlocate (starts_with nat_eq w.bytes mlocate.magic) (starts_with nat_eq w.bytes locate02.magic) (is_bigram w.bytes) is
    (no_mlocate w.bytes (no_first mlocate.mlocate MlocateBegun mlocate_first mlocate_keeps mlocate_never 0 w e)))
only_none Locate02 w is e =
    absurd (read_locate02 (starts_with nat_eq w.bytes mlocate.magic) (starts_with nat_eq w.bytes locate02.magic) (is_bigram w.bytes) is
    (no_locate02 w.bytes (no_first locate02.locate02 Locate02Begun locate02_first locate02_keeps locate02_never 0 w e)))
only_none Bigram w is e =
    bigram_or_none w.bytes is ∙ ap (λ (t : Bool). cond t (Some Bigram) None) (no_table (not w.more) w.bytes (no_first bigram.bigram BigramBegun bigram_first bigram_keeps bigram_never 0 w e))

pub refused_has_none : (w : Window) → (to_come_in w).ending ≡ Err faults.NotADatabase → format_of w.bytes ≡ None
unfolding to_come_in
refused_has_none w e = only_none (read_as w.bytes) w refl e
