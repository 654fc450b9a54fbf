-- A file of fewer than ten bytes begins no database.
use Rattle.std.proofs.Common.{◌≡◌, ℕ, ◌<◌, Bool, not, List, length, Some, None, Result, Ok, Err, refl, ap, ◌∙◌, length-append, arith}
use Rattle.byte_feed.specs.declared.damage.Stop.{Stop}
use Rattle.byte_feed.specs.Front.{Format, Window, on_ok}
use Rattle.byte_feed.specs.Endings.{Ending, end_at}
use Rattle.byte_feed.specs.Paths.{no_paths, as_paths}
use Rattle.byte_feed.specs.Field.{magic_at}
use Rattle.byte_feed.proofs.Fields.{seq}
use Rattle.byte_feed.proofs.Takes.{magic_sized}
use Rattle.byte_feed.proofs.Rests.{nothing_path}
use Rattle.byte_feed.proofs.Steps.{rest_none}
use Rattle.mlocate_db.specs.declared.item.Fixed.{Fixed}
use Rattle.mlocate_db.specs.Items.{Header, fixed_at, header_at}
use Rattle.mlocate_db.proofs.ItemSizes.{fixed_sized}
use Rattle.locate02_db.specs.Items.{magic as locate02_magic}
use Rattle.bigram_db.specs.Items.{table_at}
use Rattle.bigram_db.proofs.EntryLaws.{table_takes, table_len}
use Rattle.any_db.specs.declared.format.DatabaseFormat.{DatabaseFormat}
use Rattle.any_db.specs.declared.format.DatabaseFormat.TheVariants.{Mlocate, Locate02, Bigram}
use Rattle.any_db.specs.Formats.{items_in, to_come_by, preamble_by}

no_header : (bytes : List ℕ) (x : Header × List ℕ) → length bytes < 10 → header_at bytes ≡ Ok x → ⊥
unfolding header_at
no_header bytes x few e =
    seq (fixed_at bytes) _ _ ⊥ e (λ (fixed : Fixed × List ℕ) e1 k1. absurd (omega (arith, few, fixed_sized bytes fixed e1)))

no_first : (d : DatabaseFormat) (last : Bool) (bytes : List ℕ) (x : (items_in d).Item × List ℕ) → length bytes < 10 → (items_in d).item_at last (items_in d).begin bytes ≡ Ok x → ⊥
no_first Mlocate last bytes x few e =
    seq (header_at bytes) _ _ ⊥ e (λ (h : Header × List ℕ) e1 k1. no_header bytes h few e1)
no_first Locate02 last bytes x few e =
    seq (magic_at locate02_magic bytes) _ _ ⊥ e (λ (m : Unit {0} × List ℕ) e1 k1. absurd (omega (arith, few, magic_sized locate02_magic bytes m.0 m.1 e1)))
no_first Bigram last bytes x few e =
    seq (table_at bytes) _ _ ⊥ e (λ (t : List ℕ × List ℕ) e1 k1.
    let taken = table_takes bytes t.0 t.1 e1 in
    absurd (omega (arith, few, table_len t.0 taken.0, ap length taken.1, length-append t.0 t.1)))

stopped : {A : Type 0} (r : Result A Stop) (P : Type 0) → ((x : A) → r ≡ Ok x → ⊥) → ((s : Stop) → r ≡ Err s → P) → P
stopped (Ok x) P none go = absurd (none x refl)
stopped (Err s) P none go = go s refl

-- no path is in it
pub few_to_come : (d : DatabaseFormat) (w : Window) → length w.bytes < 10 → (P : Type 0) → ((e : Ending) → to_come_by d w ≡ no_paths 0 0 e → P) → P
few_to_come d w few P go =
    let f : Format = items_in d in
    stopped (f.item_at (not w.more) f.begin w.bytes) P (λ x e. no_first d (not w.more) w.bytes x few e) (λ s e.
    go (end_at f 0 f.begin w.bytes w.more) (ap (as_paths f f.begin 0 0) (rest_none f f.begin 0 w s e) ∙ nothing_path f f.begin 0 0 0 (end_at f 0 f.begin w.bytes w.more)))

-- nor a whole first item
pub few_first : (d : DatabaseFormat) (w : Window) → length w.bytes < 10 → preamble_by d w ≡ None
few_first d w few =
    let f : Format = items_in d in
    stopped (f.item_at (not w.more) f.begin w.bytes) _ (λ x e. no_first d (not w.more) w.bytes x few e) (λ s e. ap (on_ok None (λ (x : f.Item × List ℕ). Some (length (f.spell x.0), f.gate_of x.0))) e)
