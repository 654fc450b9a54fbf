-- What a stream gives of an entry, part by part.
use Rattle.std.proofs.Common.{◌≡◌, ℕ, ◌+◌, ◌-◌, ◌<◌, Bool, true, false, cond, ltb, List, length, drop, Option, Result, Ok, Err, refl, sym, ap, ◌∙◌, arith}
use Rattle.std.specs.Prelude.{ℤ, pos, negsuc, ◌+ℤ◌, nat_le}
use Rattle.std.specs.Int.{w8, w16, cast_signed, cast_unsigned}
use Rattle.std.proofs.lemmas.Int.{of_z-to_z}
use Rattle.std.proofs.lemmas.Bool.{eq-eqb, ne_eqb, le-ltb, lt-ltb}
use Rattle.byte_feed.specs.declared.damage.DamageCause.TheVariants.{BadCount, EmptyPath}
use Rattle.byte_feed.specs.declared.damage.Break.{Break}
use Rattle.byte_feed.specs.declared.damage.Break.TheVariants.{Stopped}
use Rattle.byte_feed.specs.declared.damage.Stop.{Stop}
use Rattle.byte_feed.specs.declared.damage.Stop.TheVariants.{Broken}
use Rattle.byte_feed.specs.Field.{Reads, ◌>>=◌, number_at, ended_at, demand, max_path}
use Rattle.byte_feed.specs.Feed.{FeedState}
use Rattle.byte_feed.specs.Stream.{StreamGives, is_cut}
use Rattle.byte_feed.proofs.Streams.{stream_then, stream_err, stream_ok, stream_stop, stream_same}
use Rattle.byte_feed.proofs.Wants.{Wants, wants_ok, wants_then, wants_number}
use Rattle.locate02_db.specs.declared.change.Change.{Change}
use Rattle.locate02_db.specs.declared.change.Change.TheVariants.{Short, Long}
use Rattle.locate02_db.specs.declared.stream.Prefix.{Prefix}
use Rattle.locate02_db.specs.Items.{Item, PathItem, amount, long_at, change_from, shared_within, remainder_at, entry_from}
use Rattle.locate02_db.specs.StreamItems.{item_in}

pub long_want : Wants 2 long_at
unfolding long_at
long_want = wants_then 2 0 (number_at 2) (λ number rest. Ok (Long (cast_signed w16 number), rest)) (wants_number 2) (λ number. wants_ok (Long (cast_signed w16 number)))

-- ---- a change

abbrev change_by : ℕ → Bool → Reads Change
change_by first long bytes = cond long (long_at bytes) (Ok (Short (cast_signed w8 first), bytes))

pub change_long : (first : ℕ) → first ≡ 128 → (bytes : List ℕ) → long_at bytes ≡ change_from first bytes
change_long first e bytes = sym (ap (λ (long : Bool). change_by first long bytes) (eq-eqb first 128 e))

change_short : (first : ℕ) → (first ≡ 128 → ⊥) → (bytes : List ℕ) → Ok (Short (cast_signed w8 first), bytes) ≡ change_from first bytes
change_short first other bytes = sym (ap (λ (long : Bool). change_by first long bytes) (ne_eqb first 128 other))

pub change_one : (first : ℕ) (z : ℤ) (f : FeedState) (l : Option (List ℕ)) → (first ≡ 128 → ⊥) → first < 256 → z ≡ cast_signed w8 first
    → StreamGives (λ (c : Change). c) (change_from first) f l f l (Ok (Short (cast_signed w8 (cast_unsigned w8 z))))
change_one first z f l other low is =
    let back : cast_signed w8 first ≡ cast_signed w8 (cast_unsigned w8 z) = sym (ap (λ (y : ℤ). cast_signed w8 (cast_unsigned w8 y)) is ∙ ap (cast_signed w8) (of_z-to_z w8 first low)) in
    let c : Change = Short (cast_signed w8 (cast_unsigned w8 z)) in
    stream_same (λ (c : Change). c) (λ bytes. Ok (c, bytes)) (change_from first) f f l l (Ok c)
    (λ bytes. ap (λ (y : ℤ). Ok (Short y, bytes)) (sym back) ∙ change_short first other bytes) (stream_ok (λ (c : Change). c) c f l)

-- ---- an entry

abbrev failed : Stop → Result ℕ Stop
failed s = Err s

abbrev cut_in : Result ℕ Stop → Bool
cut_in (Ok n) = false
cut_in (Err s) = is_cut s

stop_by : (len n : ℕ) (s : Stop) (b : Bool) → cond b (Ok n) (Err (Broken BadCount)) ≡ failed s → is_cut s ≡ false
stop_by len n s true e = absurd cc
stop_by len n s false e = ap (λ (r : Result ℕ Stop). cut_in r) (sym e)

-- a shared length that is none is not one that is cut short
pub within_stop : (len : ℕ) (z : ℤ) (s : Stop) → shared_within len z ≡ Err s → is_cut s ≡ false
within_stop len (pos n) s e = stop_by len n s (nat_le n len) e
within_stop len (negsuc n) s e = ap (λ (r : Result ℕ Stop). cut_in r) (sym e)

module _ (path : List ℕ) (old first : ℕ) (path' : List ℕ) (f0 f1 : FeedState) (l0 l1 : Option (List ℕ)) where
  abbrev behind : Change → Reads Item
  behind change bytes = shared_within (length path) (pos old +ℤ amount change) >>= λ shared. remainder_at change shared bytes

  -- the change broke off
  pub entry_cut : (e : Break) → StreamGives (λ (c : Change). c) (change_from first) f0 l0 f1 l1 (Err e) → StreamGives (item_in path') (entry_from path old first) f0 l0 f1 l1 (Err e)
  unfolding entry_from
  entry_cut e g = stream_err (λ (c : Change). c) (change_from first) behind (item_in path') f0 f1 l0 l1 e g

  -- the shared length is none
  pub entry_stop : (change : Change) (s : Stop) → shared_within (length path) (pos old +ℤ amount change) ≡ Err s → StreamGives (λ (c : Change). c) (change_from first) f0 l0 f1 l1 (Ok change)
      → StreamGives (item_in path') (entry_from path old first) f0 l0 f1 l1 (Err (Stopped s))
  unfolding entry_from
  entry_stop change s e g =
      let not_cut = within_stop (length path) (pos old +ℤ amount change) s e in
      stream_then (λ (c : Change). c) (change_from first) behind (item_in path') f0 f1 f1 l0 l1 l1 change (Err (Stopped s)) g
      (stream_same (item_in path') (λ bytes. Err s) (behind change) f1 f1 l1 l1 (Err (Stopped s)) (λ bytes. sym (ap (λ (r : Result ℕ Stop). r >>= λ shared. remainder_at change shared bytes) e)) (stream_stop (item_in path') s f1 l1 not_cut))

  -- the rest of the path was read or broke off
  pub entry_then : (f2 : FeedState) (l2 : Option (List ℕ)) (change : Change) (shared : ℕ) (result : Result Prefix Break) → shared_within (length path) (pos old +ℤ amount change) ≡ Ok shared → StreamGives (λ (c : Change). c) (change_from first) f0 l0 f1 l1 (Ok change)
      → StreamGives (item_in path') (remainder_at change shared) f1 l1 f2 l2 result → StreamGives (item_in path') (entry_from path old first) f0 l0 f2 l2 result
  unfolding entry_from
  entry_then f2 l2 change shared result e g h =
      stream_then (λ (c : Change). c) (change_from first) behind (item_in path') f0 f1 f2 l0 l1 l2 change result g
      (stream_same (item_in path') (remainder_at change shared) (behind change) f1 f2 l1 l2 result (λ bytes. sym (ap (λ (r : Result ℕ Stop). r >>= λ s. remainder_at change s bytes) e)) h)

-- ---- the rest of a path

module _ (change : Change) (shared : ℕ) (path : List ℕ) (f0 f1 : FeedState) (l0 l1 : Option (List ℕ)) where
  abbrev tested : List ℕ → Reads Item
  tested text bytes = demand (ltb 0 (shared + length text)) EmptyPath >>= λ some. Ok (PathItem change text, bytes)

  pub remainder_cut : (e : Break) → StreamGives {X = ℕ} (λ _. drop shared path) (ended_at (max_path - shared)) f0 l0 f1 l1 (Err e) → StreamGives (item_in path) (remainder_at change shared) f0 l0 f1 l1 (Err e)
  remainder_cut e g = stream_err (λ (_ : ℕ). drop shared path) (ended_at (max_path - shared)) tested (item_in path) f0 f1 l0 l1 e g

  pub remainder_none : (n : ℕ) → shared ≡ 0 → length (drop shared path) ≡ 0 → StreamGives {X = ℕ} (λ _. drop shared path) (ended_at (max_path - shared)) f0 l0 f1 l1 (Ok n)
      → StreamGives (item_in path) (remainder_at change shared) f0 l0 f1 l1 (Err (Stopped (Broken EmptyPath)))
  remainder_none n zero_shared none g =
      let test : ltb 0 (shared + length (drop shared path)) ≡ false = le-ltb 0 (shared + length (drop shared path)) (omega (arith, zero_shared, none)) in
      stream_then (λ (_ : ℕ). drop shared path) (ended_at (max_path - shared)) tested (item_in path) f0 f1 f1 l0 l1 l1 n (Err (Stopped (Broken EmptyPath))) g
      (stream_same (item_in path) (λ bytes. Err (Broken EmptyPath)) (tested (drop shared path)) f1 f1 l1 l1 (Err (Stopped (Broken EmptyPath))) (λ bytes. rw test refl) (stream_stop (item_in path) (Broken EmptyPath) f1 l1 refl))

  pub remainder_some : (n : ℕ) (p : Prefix) → p.change ≡ change → p.shared ≡ shared → 0 < shared + length (drop shared path) → StreamGives {X = ℕ} (λ _. drop shared path) (ended_at (max_path - shared)) f0 l0 f1 l1 (Ok n)
      → StreamGives (item_in path) (remainder_at change shared) f0 l0 f1 l1 (Ok p)
  remainder_some n p same_change same_shared some g =
      let test : ltb 0 (shared + length (drop shared path)) ≡ true = lt-ltb 0 (shared + length (drop shared path)) some in
      let is : PathItem change (drop shared path) ≡ item_in path p = λ i. PathItem (sym same_change i) (drop (sym same_shared i) path) in
      stream_then (λ (_ : ℕ). drop shared path) (ended_at (max_path - shared)) tested (item_in path) f0 f1 f1 l0 l1 l1 n (Ok p) g
      (stream_same (item_in path) (λ bytes. Ok (item_in path p, bytes)) (tested (drop shared path)) f1 f1 l1 l1 (Ok p) (λ bytes. rw test (ap (λ (x : Item). Ok (x, bytes)) (sym is))) (stream_ok (item_in path) p f1 l1))
