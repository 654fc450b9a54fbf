-- What one item that is read off a stream does to the rest of the file.
use Rattle.std.proofs.Common.{◌≡◌, ℕ, ◌+◌, Bool, true, false, cond, not, eqb, List, [], ◌∷◌, ◌++◌, length, drop, Option, Some, None, Result, Ok, Err, refl, sym, ap, ◌∙◌, length-append, arith}
use Rattle.std.specs.Prelude.{◌&&◌}
use Rattle.std.proofs.Math.Seq.{drop-append-add}
use Rattle.byte_feed.specs.declared.damage.DamageCause.TheVariants.{Cut}
use Rattle.byte_feed.specs.declared.damage.Break.{Break}
use Rattle.byte_feed.specs.declared.damage.Break.TheVariants.{ReadFault, TooLarge, Stopped}
use Rattle.byte_feed.specs.declared.damage.DbFault.TheVariants as faults
use Rattle.byte_feed.specs.declared.damage.Stop.{Stop}
use Rattle.byte_feed.specs.declared.damage.Stop.TheVariants.{NotADatabase, Broken}
use Rattle.byte_feed.specs.Field.{Reads}
use Rattle.byte_feed.specs.Front.{Format, Shrinks, Window, items_of, spelling, left_by}
use Rattle.byte_feed.specs.Feed.{FeedState, window, so_far}
use Rattle.byte_feed.specs.Stream.{is_cut, Gave, Fails, Wanting, StreamGives}
use Rattle.byte_feed.specs.Endings.{Ending, end_at, end_by, damage_at, fault_of, fault_at}
use Rattle.byte_feed.specs.Paths.{Rest, rest_of, after_item, no_items, to_come, as_paths, after_paths, path_here}
use Rattle.byte_feed.specs.Calls.{Moved, MovedKnown, Broke, EndsKnown}
use Rattle.byte_feed.proofs.Fronts.{items_more, items_none}
use Rattle.byte_feed.proofs.TakenOff.{window_took, more_took, so_far_took}
use Rattle.byte_feed.proofs.Rests.{item_path}

abbrev made : (f : Format) → f.State → ℕ → List f.Item → List ℕ → Bool → Rest f
made f s place items bytes more = record {
  items = items;
  ending = end_at f (place + length (spelling f items)) (left_by f s items) (drop (length (spelling f items)) bytes) more;
  place = place + length (spelling f items);
}

-- an item, and then what is left after it
pub rest_more : (f : Format) → Shrinks f → (s : f.State) (place : ℕ) (w w' : Window) (i : f.Item) (text : List ℕ)
    → w.bytes ≡ text ++ w'.bytes → w'.more ≡ w.more → f.item_at (not w.more) s w.bytes ≡ Ok (i, w'.bytes)
    → rest_of f s place w ≡ after_item f i (rest_of f (f.after s i) (place + length text) w')
unfolding rest_of
rest_more f shrinks s place w w' i text parts same e =
    let later : List f.Item = items_of f (not w'.more) (f.after s i) w'.bytes in
    let items : items_of f (not w.more) s w.bytes ≡ i ∷ later = items_more f shrinks (not w.more) s w.bytes i w'.bytes e ∙ ap (λ (m : Bool). i ∷ items_of f (not m) (f.after s i) w'.bytes) (sym same) in
    let sized : length text ≡ length (f.spell i) = omega (arith, shrinks.sized (not w.more) s w.bytes i w'.bytes e, ap length parts, length-append text w'.bytes, length-append (f.spell i) w'.bytes) in
    let len : length (f.spell i ++ spelling f later) ≡ length text + length (spelling f later) = omega (arith, length-append (f.spell i) (spelling f later), sized) in
    let rest : drop (length (f.spell i ++ spelling f later)) w.bytes ≡ drop (length (spelling f later)) w'.bytes =
    ap (λ (n : ℕ). drop n w.bytes) len ∙ ap (drop (length text + length (spelling f later))) parts ∙ drop-append-add text w'.bytes (length (spelling f later)) in
    let place_is : place + length (f.spell i ++ spelling f later) ≡ place + length text + length (spelling f later) = omega (arith, len) in
    let left : f.State = left_by f (f.after s i) later in
    ap (λ (is : List f.Item). made f s place is w.bytes w.more) items
    ∙ ap (λ (end : Ending). record { items = i ∷ later; ending = end; place = place + length (f.spell i ++ spelling f later) })
    (ap (λ (p : ℕ). end_at f p left (drop (length (f.spell i ++ spelling f later)) w.bytes) w.more) place_is
    ∙ ap (λ (l : List ℕ). end_at f (place + length text + length (spelling f later)) left l w.more) rest
    ∙ ap (λ (m : Bool). end_at f (place + length text + length (spelling f later)) left (drop (length (spelling f later)) w'.bytes) m) (sym same))
    ∙ ap (λ (p : ℕ). record { items = i ∷ later; ending = end_at f (place + length text + length (spelling f later)) left (drop (length (spelling f later)) w'.bytes) w'.more; place = p }) place_is

none_left : (f : Format) (s : f.State) (place : ℕ) (w : Window) → made f s place [] w.bytes w.more ≡ no_items f place (end_at f place s w.bytes w.more)
none_left f s place w =
    let same : (n : ℕ) → n + 0 ≡ n = λ n. omega arith in
    ap (λ (p : ℕ). no_items f p (end_at f p s w.bytes w.more)) (same place)

-- nothing is left but the end
pub rest_none : (f : Format) (s : f.State) (place : ℕ) (w : Window) (stop : Stop) → f.item_at (not w.more) s w.bytes ≡ Err stop → rest_of f s place w ≡ no_items f place (end_at f place s w.bytes w.more)
unfolding rest_of
rest_none f s place w stop e = ap (λ (items : List f.Item). made f s place items w.bytes w.more) (items_none f (not w.more) s w.bytes stop e) ∙ none_left f s place w

-- ---- an item as a reader of fields gives it

-- a value as an item
abbrev pub lifted : {Y I : Type 0} → (Y → I) → Result (Y × List ℕ) Stop → Result (I × List ℕ) Stop
lifted item (Ok x) = Ok (item x.0, x.1)
lifted item (Err s) = Err s

lifted_ok : {Y I : Type 0} (item : Y → I) (r : Result (Y × List ℕ) Stop) (y : Y) (rest : List ℕ) → r ≡ Ok (y, rest) → lifted item r ≡ Ok (item y, rest)
lifted_ok item r y rest e = ap (lifted item) e

lifted_fails : {Y I : Type 0} (item : Y → I) (r : Result (Y × List ℕ) Stop) (P : Type 0) → Fails r → ((s : Stop) → lifted item r ≡ Err s → P) → P
lifted_fails item (Ok x) P h go = absurd h
lifted_fails item (Err s) P h go = go s refl

-- the file does not end here, for all that is known
abbrev pub NotEnd : (f : Format) → f.State → FeedState → Option (List ℕ) → Type 0
NotEnd f s a None = Unit {0}
NotEnd f s a (Some l) = (f.may_end s && eqb (length (window a l).bytes) 0) ≡ false

cut_fault : (place : ℕ) (more : Bool) → more ≡ true → fault_of place more (Broken Cut) ≡ faults.TooLarge
cut_fault place more e = ap (λ (b : Bool). cond b faults.TooLarge (damage_at place (Broken Cut))) e

stop_fault_by : (place : ℕ) (more cut : Bool) (s : Stop) → (cut ≡ true → more ≡ false) → cond (cut && more) faults.TooLarge (damage_at place s) ≡ damage_at place s
stop_fault_by place more true s h = ap (λ (b : Bool). cond b faults.TooLarge (damage_at place s)) (h refl)
stop_fault_by place more false s h = refl

module _ (f : Format) (shrinks : Shrinks f) (s : f.State) {X Y : Type 0} (u : X → Y) (item : Y → f.Item) (read : Reads Y)
    (is : (last : Bool) (bytes : List ℕ) → f.item_at last s bytes ≡ lifted item (read bytes)) where
  moved_by : (a a' : FeedState) (l l' : List ℕ) (x : X) → Gave read (u x) a l a' l'
      → Moved (rest_of f s a.offset) (rest_of f (f.after s (item (u x))) a'.offset) (after_item f (item (u x))) a l a' l'
  moved_by a a' l l' x g =
      let i : f.Item = item (u x) in
      let at : (last : Bool) (bytes rest : List ℕ) → bytes ≡ g.text ++ rest → f.item_at last s bytes ≡ Ok (i, rest) =
      λ last bytes rest e. is last bytes ∙ lifted_ok item (read bytes) (u x) rest (ap read e ∙ g.gives rest) in
      let placed : (w : Window) → after_item f i (rest_of f (f.after s i) (a.offset + length g.text) w) ≡ after_item f i (rest_of f (f.after s i) a'.offset w) =
      λ w. ap (λ (p : ℕ). after_item f i (rest_of f (f.after s i) p w)) (sym g.took.offset) in
      record {
        whole =
            let parts = window_took a a' l l' g.text g.took in
            rest_more f shrinks s a.offset (window a l) (window a' l') i g.text parts (more_took a a' l l' g.text g.took) (at (not (window a l).more) (window a l).bytes (window a' l').bytes parts)
            ∙ placed (window a' l');
        goes_on = g.took.goes_on;
        parts = λ going n le.
            let parts = so_far_took a a' l l' g.text n g.took going le in
            rest_more f shrinks s a.offset (so_far a l n) (so_far a' l' n) i g.text parts refl (at false (so_far a l n).bytes (so_far a' l' n).bytes parts)
            ∙ placed (so_far a' l' n);
      }

  -- the item was read
  pub step_ok : (a a' : FeedState) (l l' : Option (List ℕ)) (x : X) → StreamGives u read a l a' l' (Ok x)
      → MovedKnown (rest_of f s a.offset) (rest_of f (f.after s (item (u x))) a'.offset) (after_item f (item (u x))) a l a' l'
  unfolding StreamGives
  step_ok a a' None l' x g = tt
  step_ok a a' (Some b) None x g = absurd g
  step_ok a a' (Some b) (Some b') x g = moved_by a a' b b' x g

  ended_by : (place : ℕ) (w : Window) (stop : Stop) → read w.bytes ≡ Err stop → rest_of f s place w ≡ no_items f place (end_at f place s w.bytes w.more)
  ended_by place w stop e = rest_none f s place w stop (is (not w.more) w.bytes ∙ ap (lifted item) e)

  end_is : (place : ℕ) (bytes : List ℕ) (more : Bool) (stop : Stop) (b : Bool) → (f.may_end s && eqb (length bytes) 0) ≡ b → b ≡ false → read bytes ≡ Err stop → end_at f place s bytes more ≡ Err (fault_of place more stop)
  end_is place bytes more stop b b_is b_false e =
      ap (λ (t : Bool). cond t (cond more (Err faults.TooLarge) (Ok tt)) (end_by place more (f.item_at (not more) s bytes))) (b_is ∙ b_false)
      ∙ ap (end_by place more) (is (not more) bytes ∙ ap (lifted item) e)

  wanting : (place : ℕ) (a : FeedState) (l : List ℕ) (n : ℕ) → Wanting read a l n → Broke (rest_of f s place) (no_items f place) a l n
  wanting place a l n g =
      lifted_fails item (read (so_far a l n).bytes) _ g.none (λ stop none.
      record { goes_on = g.goes_on; fewer = g.fewer; ending = end_at f place s (so_far a l n).bytes true; nothing = rest_none f s place (so_far a l n) stop (is false _ ∙ none) })

  -- no item stands there, and the file does not end
  pub step_err : (a a' : FeedState) (l l' : Option (List ℕ)) (e : Break) → NotEnd f s a l → StreamGives u read a l a' l' (Err e)
      → EndsKnown (rest_of f s a.offset) (no_items f a.offset) a l l' (Err (fault_at a.offset e))
  unfolding StreamGives
  step_err a a' None l' e on g = tt
  step_err a a' (Some b) None e on g = absurd g
  step_err a a' (Some b) (Some b') ReadFault on g = wanting a.offset a b (length b') g
  step_err a a' (Some b) (Some b') TooLarge on g =
      ended_by a.offset (window a b) (Broken Cut) g.0
      ∙ ap (λ (t : Ending). no_items f a.offset t) (end_is a.offset (window a b).bytes (window a b).more (Broken Cut) _ refl on g.0 ∙ ap Err (cut_fault a.offset _ g.1))
  step_err a a' (Some b) (Some b') (Stopped NotADatabase) on g =
      ended_by a.offset (window a b) NotADatabase g.0
      ∙ ap (λ (t : Ending). no_items f a.offset t) (end_is a.offset (window a b).bytes (window a b).more NotADatabase _ refl on g.0)
  step_err a a' (Some b) (Some b') (Stopped (Broken c)) on g =
      ended_by a.offset (window a b) (Broken c) g.0
      ∙ ap (λ (t : Ending). no_items f a.offset t) (end_is a.offset (window a b).bytes (window a b).more (Broken c) _ refl on g.0 ∙ ap Err (stop_fault_by a.offset _ (is_cut (Broken c)) (Broken c) g.1))

  -- where the source failed, it does not matter whether the file may end here
  pub step_fault : (a a' : FeedState) (l l' : Option (List ℕ)) → StreamGives u read a l a' l' (Err ReadFault) → EndsKnown (rest_of f s a.offset) (no_items f a.offset) a l l' (Err faults.ReadFault)
  unfolding StreamGives
  step_fault a a' None l' g = tt
  step_fault a a' (Some b) None g = absurd g
  step_fault a a' (Some b) (Some b') g = wanting a.offset a b (length b') g

-- ---- items as paths

-- how long an item is, by the rest before it and after it
pub item_len : (f : Format) (s s' : f.State) (p p' : ℕ) (w w' : Window) (i : f.Item) → rest_of f s p w ≡ after_item f i (rest_of f s' p' w') → p + length (f.spell i) ≡ p'
unfolding rest_of
item_len f s s' p p' w w' i e =
    let place = ap (λ (r : Rest f). r.place) e in
    let items = ap (λ (r : Rest f). length (spelling f r.items)) e in
    omega (arith, place, items, length-append (f.spell i) (spelling f (rest_of f s' p' w').items))

-- an item that was given is a path that was given, where it has one
pub paths_by_items : (f : Format) (s s' : f.State) (p p' heads : ℕ) (i : f.Item) (a a' : FeedState) (l l' : Option (List ℕ)) → s' ≡ f.after s i
    → MovedKnown (rest_of f s p) (rest_of f s' p') (after_item f i) a l a' l'
    → MovedKnown (to_come f s p heads) (to_come f s' p' (heads + f.head_of i)) (after_paths (path_here p' heads (f.path_of s i))) a l a' l'
paths_by_items f s s' p p' heads i a a' None l' after m = tt
paths_by_items f s s' p p' heads i a a' (Some b) None after m = absurd m
paths_by_items f s s' p p' heads i a a' (Some b) (Some b') after m =
    let step : (w w' : Window) → rest_of f s p w ≡ after_item f i (rest_of f s' p' w') → to_come f s p heads w ≡ after_paths (path_here p' heads (f.path_of s i)) (to_come f s' p' (heads + f.head_of i) w') =
    λ w w' e. ap (as_paths f s p heads) e ∙ item_path f s p heads i (rest_of f s' p' w')
    ∙ ap (λ (q : ℕ). after_paths (path_here q heads (f.path_of s i)) (as_paths f (f.after s i) q (heads + f.head_of i) (rest_of f s' p' w'))) (item_len f s s' p p' w w' i e)
    ∙ ap (λ (t : f.State). after_paths (path_here p' heads (f.path_of s i)) (as_paths f t p' (heads + f.head_of i) (rest_of f s' p' w'))) (sym after) in
    record {
      whole = step (window a b) (window a' b') m.whole;
      goes_on = m.goes_on;
      parts = λ going n le. step (so_far a b n) (so_far a' b' n) (m.parts going n le);
    }
