-- The walk over items and text that goes back to the last star.
use Rattle.std.proofs.Common.{◌≡◌, ℕ, zero, suc, ◌+◌, ◌-◌, ◌<◌, ◌≤◌, List, [], ◌∷◌, length, take, drop, get_or, Contains, ⊎_elim, Some, refl, sym, ap, subst, ◌∙◌, arith, add-one, slice_get, length-drop, take-append-drop, append-nil, IfSome, IsTrue, ◌↔◌, Bool, true, false}
use Rattle.std.proofs.lemmas.List.{drop-drop, get_or-drop}
use Rattle.std.proofs.lemmas.Bool.{false≢true, cases_lt}
use Rattle.std.proofs.Math.Seq.{drop-append_seam, drop-cons}
use Rattle.std.proofs.Math.ListN.{drop_of_length-le}
use Rattle.glob_match.specs.Item.{Item, Star, OneOf, Takes}
use Rattle.glob_match.specs.Language.{Matches}

-- the items from a known one on
pub drop-item : (items : List Item) (i : ℕ) (x : Item) → slice_get items i ≡ Some x → drop i items ≡ x ∷ drop (i + 1) items
drop-item [] i x e = cc
drop-item (y ∷ items) zero x e = cc
drop-item (y ∷ items) (suc i) x e = rw (drop-item items i x e, add-one, add-one)

-- a star passes over some bytes
star_passes : (items : List Item) (text : List ℕ) (from : ℕ) → Matches (Star ∷ items) (drop from text) → (n : ℕ) × Matches items (drop (from + n) text)
star_passes items text from h = (length h.0, subst (Matches items) (sym (drop-append_seam h.0 h.1) ∙ ap (drop (length h.0)) (sym h.2) ∙ drop-drop (length h.0) from text) h.3)

star_over : (items : List Item) (text : List ℕ) (from n : ℕ) → Matches items (drop (from + n) text) → Matches (Star ∷ items) (drop from text)
star_over items text from n h = (take n (drop from text), drop n (drop from text), sym (take-append-drop n (drop from text)), subst (Matches items) (sym (drop-drop n from text)) h)

-- one of some bytes takes the byte at its place
set_takes : (items : List Item) (bytes : List ℕ) (text : List ℕ) (at : ℕ) → Matches (OneOf bytes ∷ items) (drop at text) → (at < length text) × Contains bytes (get_or text at 0) × Matches items (drop (at + 1) text)
set_takes items bytes [] zero h = absurd h
set_takes items bytes [] (suc at) h = absurd h
set_takes items bytes (b ∷ text) zero h = (omega arith, h.0, h.1)
set_takes items bytes (b ∷ text) (suc at) h = let r = set_takes items bytes text at h in (omega (arith, r.0), r.1, rw add-one (rw add-one at r.2))

set_over : (items : List Item) (bytes : List ℕ) (text : List ℕ) (at : ℕ) → at < length text → Contains bytes (get_or text at 0) → Matches items (drop (at + 1) text) → Matches (OneOf bytes ∷ items) (drop at text)
set_over items bytes text at l c h = rw (drop-cons text at 0 l) (c, rw add-one at h)

-- what is left to be found: the items in their place before the first star, and after it the last star and what follows
abbrev pub Left : List Item → List ℕ → ℕ → ℕ → Type 0
Left items text zero from = Matches items (drop from text)
Left items text (suc i) from = Matches (Star ∷ drop (suc i) items) (drop from text)

-- the walk stands before an item and a place of the text; `restart` is the item after the last star, 0 before
-- the first, and `from` the place from which that item was last tried
pub record Walks (items : List Item) (text : List ℕ) (item at restart from : ℕ) : Type 0 where
  pub item_in : item ≤ length items
  pub at_in : at ≤ length text
  pub behind : restart ≤ item
  pub level : at + restart ≡ from + item
  -- whatever matches from the restart matches on, as far as the walk has come
  pub forward : (k : ℕ) → Matches (drop restart items) (drop k text) → Matches (drop item items) (drop (k + (item - restart)) text)
  pub back : Matches (drop item items) (drop at text) → Matches (drop restart items) (drop from text)
  pub needed : Matches items text → Left items text restart from
  pub enough : Left items text restart from → Matches items text

module _ (items : List Item) (text : List ℕ) where
  pub Walks-start : Walks items text 0 0 0 0
  Walks-start = record {
    item_in = omega arith;
    at_in = omega arith;
    behind = omega arith;
    level = refl;
    forward = λ k h. subst (λ n. Matches items (drop n text)) (omega arith) h;
    back = λ h. h;
    needed = λ h. h;
    enough = λ h. h;
  }

  -- what matches from where the walk stands is enough
  left_here : (restart from : ℕ) → Matches (drop restart items) (drop from text) → Left items text restart from
  left_here zero from h = h
  left_here (suc i) from h = star_over (drop (suc i) items) text from 0 (subst (λ n. Matches (drop (suc i) items) (drop n text)) (omega arith) h)

  pub Walks-found : {item at restart from : ℕ} → Walks items text item at restart from → Matches (drop item items) (drop at text) → Matches items text
  Walks-found {item} {at} {restart} {from} w h = w.enough (left_here restart from (w.back h))

  -- what is left begins at the restart, some bytes on, and then matches from the item on
  left_on : (item at restart from : ℕ) → Walks items text item at restart from → Left items text restart from → (n : ℕ) × Matches (drop item items) (drop (at + n) text)
  left_on item at zero from w l = (0, subst (λ n. Matches (drop item items) (drop n text)) (omega (arith, w.level)) (w.forward from l))
  left_on item at (suc i) from w l =
      let p = star_passes (drop (suc i) items) text from l in
      (p.0, subst (λ n. Matches (drop item items) (drop n text)) (omega (arith, w.level, w.behind)) (w.forward (from + p.0) p.1))

  -- a star becomes the last
  pub Walks-star : {item at restart from : ℕ} → Walks items text item at restart from → slice_get items item ≡ Some Star → item < length items → Walks items text (item + 1) at (item + 1) at
  Walks-star {item} {at} {restart} {from} w is within = record {
    item_in = omega arith;
    at_in = w.at_in;
    behind = omega arith;
    level = refl;
    forward = λ k h. subst (λ n. Matches (drop (item + 1) items) (drop n text)) (omega arith) h;
    back = λ h. h;
    needed = λ h.
        let n = left_on item at restart from w (w.needed h) in
        let on : Matches (Star ∷ drop (item + 1) items) (drop (at + n.0) text) = rw (drop-item items item Star is) at n.1 in
        let p = star_passes (drop (item + 1) items) text (at + n.0) on in
        let q : Matches (drop (item + 1) items) (drop (at + (n.0 + p.0)) text) = subst (λ k. Matches (drop (item + 1) items) (drop k text)) (omega arith) p.1 in
        rw add-one (rw add-one at (star_over (drop (item + 1) items) text at (n.0 + p.0) q));
    enough = λ l. Walks-found w (rw (drop-item items item Star is) (rw add-one (rw add-one at l)));
  }

  pub Walks-takes : {item at restart from : ℕ} → (bytes : List ℕ) → Walks items text item at restart from → slice_get items item ≡ Some (OneOf bytes) → item < length items → at < length text → Contains bytes (get_or text at 0) → Walks items text (item + 1) (at + 1) restart from
  Walks-takes {item} {at} {restart} {from} bytes w is within here takes = record {
    item_in = omega arith;
    at_in = omega arith;
    behind = omega (arith, w.behind);
    level = omega (arith, w.level);
    forward = λ k h.
        let f : Matches (OneOf bytes ∷ drop (item + 1) items) (drop (k + (item - restart)) text) = rw (drop-item items item (OneOf bytes) is) at (w.forward k h) in
        subst (λ n. Matches (drop (item + 1) items) (drop n text)) (omega (arith, w.behind)) (set_takes (drop (item + 1) items) bytes text (k + (item - restart)) f).2;
    back = λ h. w.back (rw (drop-item items item (OneOf bytes) is) (set_over (drop (item + 1) items) bytes text at here takes h));
    needed = w.needed;
    enough = w.enough;
  }

  -- a match of what a star leaves does not begin where the walk failed, so it begins later
  pub Walks-restart : {item at restart from : ℕ} → Walks items text item at restart from → 0 < restart → at < length text → (Matches (drop item items) (drop at text) → ⊥) → Walks items text restart (from + 1) restart (from + 1)
  Walks-restart {item = item} {at = at} {restart = zero} {from = from} w some here fails = absurd (omega arith)
  Walks-restart {item = item} {at = at} {restart = suc i} {from = from} w some here fails = record {
    item_in = omega (arith, w.behind, w.item_in);
    at_in = omega (arith, w.behind, w.level);
    behind = omega arith;
    level = refl;
    forward = λ k h. subst (λ n. Matches (drop (suc i) items) (drop n text)) (omega arith) h;
    back = λ h. h;
    needed = λ h. later (w.needed h);
    enough = λ l.
        let p = star_passes (drop (suc i) items) text (from + 1) l in
        w.enough (star_over (drop (suc i) items) text from (1 + p.0) (subst (λ n. Matches (drop (suc i) items) (drop n text)) (omega arith) p.1));
  } where
    at_from : (n : ℕ) → n ≡ 0 → Matches (drop (suc i) items) (drop (from + n) text) → ⊥
    at_from n e h = fails (subst (λ k. Matches (drop item items) (drop k text)) (omega (arith, w.level, w.behind, e)) (w.forward (from + n) h))

    moved : (n : ℕ) → Matches (drop (suc i) items) (drop (from + n) text) → Left items text (suc i) (from + 1)
    moved zero h = absurd (at_from 0 refl h)
    moved (suc n) h = star_over (drop (suc i) items) text (from + 1) n (subst (λ k. Matches (drop (suc i) items) (drop k text)) (omega arith) h)

    later : Left items text (suc i) from → Left items text (suc i) (from + 1)
    later l = let p = star_passes (drop (suc i) items) text from l in moved p.0 p.1

  -- nothing matches at some places on end, so it begins after them
  pub Walks-skip : (n : ℕ) {restart from : ℕ} → Walks items text restart from restart from → 0 < restart → from + n ≤ length text
      → ((place : ℕ) → from ≤ place → place < from + n → Matches (drop restart items) (drop place text) → ⊥) → Walks items text restart (from + n) restart (from + n)
  Walks-skip zero {restart} {from} w some within fails = subst (λ k. Walks items text restart k restart k) (omega arith) w
  Walks-skip (suc n) {restart} {from} w some within fails =
      let next : Walks items text restart (from + 1) restart (from + 1) = Walks-restart w some (omega arith) (fails from (omega arith) (omega arith)) in
      let on : Walks items text restart (from + 1 + n) restart (from + 1 + n) = Walks-skip n next some (omega arith) (λ place l r. fails place (omega arith) (omega arith)) in
      subst (λ k. Walks items text restart k restart k) (omega arith) on

  pub Walks-from : {restart from : ℕ} (to : ℕ) → Walks items text restart from restart from → 0 < restart → from ≤ to → to ≤ length text
      → ((place : ℕ) → from ≤ place → place < to → Matches (drop restart items) (drop place text) → ⊥) → Walks items text restart to restart to
  Walks-from {restart} {from} to w some forth within fails =
      let gap : from + (to - from) ≡ to = omega arith in
      subst (λ k. Walks items text restart k restart k) gap (Walks-skip (to - from) w some (omega (arith, gap)) (λ place l r. fails place l (omega (arith, gap))))

  -- before the first star nothing else is left to try
  pub Walks-fails : {item at restart from : ℕ} → Walks items text item at restart from → restart ≡ 0 → (Matches (drop item items) (drop at text) → ⊥) → Matches items text → ⊥
  Walks-fails {item = item} {at = at} {restart = suc i} {from = from} w none fails h = absurd (omega arith)
  Walks-fails {item = item} {at = at} {restart = zero} {from = from} w none fails h = fails (subst (λ n. Matches (drop item items) (drop n text)) (omega (arith, w.level)) (w.forward from (w.needed h)))

  -- an item that wants a byte at the end of the text wants one too many from any later restart
  pub Walks-short : {item at restart from : ℕ} → (bytes : List ℕ) → Walks items text item at restart from → slice_get items item ≡ Some (OneOf bytes) → length text ≤ at → Matches items text → ⊥
  Walks-short {item} {at} {restart} {from} bytes w is end h =
      let n = left_on item at restart from w (w.needed h) in
      let f : Matches (OneOf bytes ∷ drop (item + 1) items) (drop (at + n.0) text) = rw (drop-item items item (OneOf bytes) is) at n.1 in
      omega (arith, (set_takes (drop (item + 1) items) bytes text (at + n.0) f).0)

  pub fails_past : (item at : ℕ) → length items ≤ item → at < length text → Matches (drop item items) (drop at text) → ⊥
  fails_past item at past here h =
      let e : drop at text ≡ [] = subst (λ l. Matches l (drop at text)) (drop_of_length-le items past) h in
      omega (arith, length-drop at text, ap length e)

  pub fails_at : (item at : ℕ) (bytes : List ℕ) → slice_get items item ≡ Some (OneOf bytes) → (Contains bytes (get_or text at 0) → ⊥) → Matches (drop item items) (drop at text) → ⊥
  fails_at item at bytes is not h =
      let f : Matches (OneOf bytes ∷ drop (item + 1) items) (drop at text) = rw (drop-item items item (OneOf bytes) is) at h in
      not (set_takes (drop (item + 1) items) bytes text at f).1

  pub matches_end : (item at : ℕ) → length items ≤ item → length text ≤ at → Matches (drop item items) (drop at text)
  matches_end item at past end = rw (drop_of_length-le items past) (drop_of_length-le text end)

  -- a star at the end takes what is left
  pub matches_last_star : (item at : ℕ) → slice_get items item ≡ Some Star → length items ≤ item + 1 → Matches (drop item items) (drop at text)
  matches_last_star item at is last = rw (drop-item items item Star is, drop_of_length-le items last) (drop at text, [], sym (append-nil (drop at text)), refl)

  -- an item that is no star takes one of some bytes
  set_there : (item : ℕ) → item < length items → (slice_get items item ≡ Some Star → ⊥) → (bytes : List ℕ) × (slice_get items item ≡ Some (OneOf bytes))
  set_there item within other = at items item within other where
    at : (xs : List Item) (i : ℕ) → i < length xs → (slice_get xs i ≡ Some Star → ⊥) → (bytes : List ℕ) × (slice_get xs i ≡ Some (OneOf bytes))
    at [] i w n = absurd (omega arith)
    at (Star ∷ xs) zero w n = absurd (n refl)
    at (OneOf bytes ∷ xs) zero w n = (bytes, refl)
    at (x ∷ xs) (suc i) w n = at xs i (omega arith) n

  pub Walks-taken : {item at restart from : ℕ} → Walks items text item at restart from → item < length items → (slice_get items item ≡ Some Star → ⊥) → at < length text → IfSome (slice_get items item) (λ x. IsTrue true ↔ Takes x (get_or text at 0)) → Walks items text (item + 1) (at + 1) restart from
  Walks-taken {item} {at} w within other here says =
      let s = set_there item within other in
      Walks-takes s.0 w s.1 within here ((rw s.1 at says).0 refl)

  pub fails_untaken : (item at : ℕ) → item < length items → (slice_get items item ≡ Some Star → ⊥) → IfSome (slice_get items item) (λ x. IsTrue false ↔ Takes x (get_or text at 0)) → Matches (drop item items) (drop at text) → ⊥
  fails_untaken item at within other says h =
      let s = set_there item within other in
      fails_at item at s.0 s.1 (λ takes. false≢true ((rw s.1 at says).1 takes)) h

  pub Walks-ended : {item at restart from : ℕ} → Walks items text item at restart from → item < length items → (slice_get items item ≡ Some Star → ⊥) → length text ≤ at → Matches items text → ⊥
  Walks-ended {item} w within other end h =
      let s = set_there item within other in
      Walks-short s.0 w s.1 end h

-- the last byte of what is left is that of the whole
last_after : (n : ℕ) (text rest : List ℕ) → drop n text ≡ rest → 0 < length rest → get_or rest (length rest - 1) 0 ≡ get_or text (length text - 1) 0
last_after n text rest e some = rw (← e) (get_or-drop n text (length (drop n text) - 1) 0 ∙ ap (λ k. get_or text k 0) (omega (arith, length-drop n text, ap length e)))

-- a last item that is no star takes the last byte
last_taken : (items : List Item) (i : ℕ) (bytes text : List ℕ) → Matches items text → slice_get items i ≡ Some (OneOf bytes) → length items ≡ i + 1 → (0 < length text) × Contains bytes (get_or text (length text - 1) 0)
last_taken [] i bytes text m is len = cc
last_taken (Star ∷ items) zero bytes text m is len = cc
last_taken (OneOf own ∷ items) zero bytes [] m is len = absurd m
last_taken (OneOf own ∷ []) zero bytes (b ∷ text) m is len =
    let same : own ≡ bytes = cc in
    rw m.1 (omega arith, rw (← same) m.0)
last_taken (OneOf own ∷ (y ∷ items)) zero bytes (b ∷ text) m is len = absurd (omega arith)
last_taken (Star ∷ items) (suc i) bytes text m is len =
    let r = last_taken items i bytes m.1 m.3 is (omega arith) in
    let e : drop (length m.0) text ≡ m.1 = ap (drop (length m.0)) m.2 ∙ drop-append_seam m.0 m.1 in
    (omega (arith, r.0, ap length e, length-drop (length m.0) text), rw (last_after (length m.0) text m.1 e r.0) at r.1)
last_taken (OneOf own ∷ items) (suc i) bytes [] m is len = absurd m
last_taken (OneOf own ∷ items) (suc i) bytes (b ∷ text) m is len =
    let r = last_taken items i bytes text m.1 is (omega arith) in
    (omega arith, rw (last_after 1 (b ∷ text) text refl r.0) at r.1)

pub ends_needed : (items : List Item) (text : List ℕ) (i : ℕ) (r : Bool) → length items ≡ i + 1 → (slice_get items i ≡ Some Star → ⊥) → IfSome (slice_get items i) (λ x. IsTrue r ↔ Takes x (get_or text (length text - 1) 0)) → Matches items text → r ≡ true
ends_needed items text i r len other says m =
    let s = set_there items text i (omega arith) other in
    let t = last_taken items i s.0 text m s.1 len in
    (rw s.1 at says).1 t.1

pub ends_some : (items : List Item) (text : List ℕ) (i : ℕ) → length items ≡ i + 1 → (slice_get items i ≡ Some Star → ⊥) → Matches items text → 0 < length text
ends_some items text i len other m =
    let s = set_there items text i (omega arith) other in
    (last_taken items i s.0 text m s.1 len).0

-- one place more that nothing matches from
pub passed_more : (items : List Item) (text : List ℕ) (item from start : ℕ) → ((place : ℕ) → from ≤ place → place < start → Matches (drop item items) (drop place text) → ⊥)
    → (Matches (drop item items) (drop start text) → ⊥) → (place : ℕ) → from ≤ place → place < start + 1 → Matches (drop item items) (drop place text) → ⊥
passed_more items text item from start passed fails place l r h =
    ⊎_elim (λ b. passed place l b h) (λ b. fails (subst (λ k. Matches (drop item items) (drop k text)) (omega (arith, r, b)) h)) (cases_lt place start)
