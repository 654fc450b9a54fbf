-- The first item of a file, by what its rest gives.
use Rattle.std.proofs.Common.{◌≡◌, ℕ, zero, suc, ◌<◌, Bool, true, false, cond, not, List, [], ◌∷◌, length, Option, Some, None, Result, Ok, Err, MatchBool, refl, ap, ◌∙◌, arith}
use Rattle.byte_feed.specs.declared.damage.DbFault.{DbFault}
use Rattle.byte_feed.specs.declared.damage.Stop.{Stop}
use Rattle.byte_feed.specs.Front.{Format, Shrinks, Window, on_ok, items_within, items_of}
use Rattle.byte_feed.specs.Feed.{FeedState, window, so_far}
use Rattle.byte_feed.specs.Endings.{Ending, is_read_fault}
use Rattle.byte_feed.specs.Paths.{Rest, rest_of, after_item, no_items, to_come, as_paths, no_paths, preamble_of}
use Rattle.byte_feed.specs.Calls.{Broke, EndsKnown, NoPreambleKnown}
use Rattle.byte_feed.proofs.Rests.{ends_as, nothing_path}

-- ---- items that were read first

abbrev read_first : (f : Format) → Result (f.Item × List ℕ) Stop → Option (ℕ × Bool)
read_first f r = on_ok None (λ x. Some (length (f.spell x.0), f.gate_of x.0)) r

abbrev shown : (f : Format) → List f.Item → Option (ℕ × Bool)
shown f [] = None
shown f (i ∷ is) = Some (length (f.spell i), f.gate_of i)

first_by : (f : Format) (n : ℕ) (last : Bool) (r : Result (f.Item × List ℕ) Stop) (s : f.State)
    → read_first f r ≡ shown f (on_ok [] (λ (x : f.Item × List ℕ). x.0 ∷ items_within f n last (f.after s x.0) x.1) r)
first_by f n last (Ok x) s = refl
first_by f n last (Err stop) s = refl

first_within : (f : Format) (n : ℕ) (last : Bool) (s : f.State) (bytes : List ℕ) → 0 < n → read_first f (f.item_at last s bytes) ≡ shown f (items_within f n last s bytes)
unfolding items_within
first_within f zero last s bytes some = absurd (omega (arith, some))
first_within f (suc n) last s bytes some = first_by f n last (f.item_at last s bytes) s

nothing_by : (f : Format) → Shrinks f → (last : Bool) (s : f.State) (r : Result (f.Item × List ℕ) Stop) → f.item_at last s [] ≡ r → read_first f r ≡ None
nothing_by f shrinks last s (Ok x) e = absurd (omega (arith, shrinks.shorter last s [] x.0 x.1 e))
nothing_by f shrinks last s (Err stop) e = refl

first_in : (f : Format) → Shrinks f → (last : Bool) (bytes : List ℕ) → read_first f (f.item_at last f.begin bytes) ≡ shown f (items_within f (length bytes) last f.begin bytes)
unfolding items_within
first_in f shrinks last [] = nothing_by f shrinks last f.begin (f.item_at last f.begin []) refl
first_in f shrinks last (b ∷ bytes) = first_within f (length (b ∷ bytes)) last f.begin (b ∷ bytes) (omega arith)

-- the first item is the first of those that are left
pub first_of : (f : Format) → Shrinks f → (w : Window) → preamble_of f w ≡ shown f (items_of f (not w.more) f.begin w.bytes)
unfolding items_of
first_of f shrinks w = first_in f shrinks (not w.more) w.bytes

pub preamble_some : (f : Format) → Shrinks f → (p : ℕ) (w : Window) (i : f.Item) (r : Rest f) → rest_of f f.begin p w ≡ after_item f i r → preamble_of f w ≡ Some (length (f.spell i), f.gate_of i)
unfolding rest_of
preamble_some f shrinks p w i r e = first_of f shrinks w ∙ ap (λ (z : Rest f). shown f z.items) e

pub preamble_none : (f : Format) → Shrinks f → (p q : ℕ) (w : Window) (e : Ending) → rest_of f f.begin p w ≡ no_items f q e → preamble_of f w ≡ None
unfolding rest_of
preamble_none f shrinks p q w end e = first_of f shrinks w ∙ ap (λ (z : Rest f). shown f z.items) e

no_preamble_by : (f : Format) → Shrinks f → (p q : ℕ) (a : FeedState) (l : List ℕ) (n : ℕ) (e : Ending) (fault : Bool) → MatchBool fault (Broke (rest_of f f.begin p) (no_items f q) a l n) (rest_of f f.begin p (window a l) ≡ no_items f q e)
    → (w : Window) → (fault ≡ true → w ≡ so_far a l n) → (fault ≡ false → w ≡ window a l) → preamble_of f w ≡ None
no_preamble_by f shrinks p q a l n e true h w broke whole = ap (preamble_of f) (broke refl) ∙ preamble_none f shrinks p q (so_far a l n) h.ending h.nothing
no_preamble_by f shrinks p q a l n e false h w broke whole = ap (preamble_of f) (whole refl) ∙ preamble_none f shrinks p q (window a l) e h

pick : {A : Type 0} (b : Bool) (x y : A) → b ≡ true → cond b x y ≡ x
pick b x y e = ap (λ (c : Bool). cond c x y) e

other : {A : Type 0} (b : Bool) (x y : A) → b ≡ false → cond b x y ≡ y
other b x y e = ap (λ (c : Bool). cond c x y) e

-- where the file ends at once, no first item stands there
pub no_preamble : (f : Format) → Shrinks f → (p q : ℕ) (a : FeedState) (l l' : Option (List ℕ)) (e : DbFault) → EndsKnown (rest_of f f.begin p) (no_items f q) a l l' (Err e) → NoPreambleKnown (preamble_of f) a l l' e
no_preamble f shrinks p q a None l' e h = tt
no_preamble f shrinks p q a (Some l) None e h = absurd h
no_preamble f shrinks p q a (Some l) (Some l') e h =
    no_preamble_by f shrinks p q a l (length l') (Err e) (is_read_fault (Err e)) h _ (pick (is_read_fault (Err e)) (so_far a l (length l')) (window a l)) (other (is_read_fault (Err e)) (so_far a l (length l')) (window a l))

-- an end as paths
pub ends_paths : (f : Format) (s : f.State) (p q heads : ℕ) (a : FeedState) (l l' : Option (List ℕ)) (e : Ending) → EndsKnown (rest_of f s p) (no_items f q) a l l' e → EndsKnown (to_come f s p heads) (no_paths q heads) a l l' e
ends_paths f s p q heads a l l' e h = ends_as (rest_of f s p) (to_come f s p heads) (no_items f q) (no_paths q heads) (as_paths f s p heads) a l l' e (λ w. refl) (nothing_path f s p heads q) h
