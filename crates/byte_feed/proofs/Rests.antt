-- What is given off the rest of a file, one part after another.
use Rattle.std.proofs.Common.{◌≡◌, ℕ, ◌+◌, Bool, true, false, List, ◌∷◌, length, Option, Some, None, MatchBool, refl, sym, ap, ◌∙◌, arith}
use Rattle.byte_feed.specs.Front.{Format, Window}
use Rattle.byte_feed.specs.Feed.{FeedState, window, so_far}
use Rattle.byte_feed.specs.Endings.{Ending, is_read_fault}
use Rattle.byte_feed.specs.Paths.{Rest, after_item, no_items, after_paths, no_paths, as_paths, path_here, paths_of, heads_of}
use Rattle.byte_feed.specs.Calls.{Moved, MovedKnown, Broke, EndsKnown}

pub moved_none : {T : Type 0} (t : Window → T) (f : FeedState) (l : Option (List ℕ)) → MovedKnown t t (λ x. x) f l f l
moved_none t f None = tt
moved_none t f (Some a) = record { whole = refl; goes_on = λ e. (e, omega arith); parts = λ e n le. refl }

-- one after the other
pub moved_then : {T : Type 0} (t t' t'' : Window → T) (g h : T → T) (f f' f'' : FeedState) (l l' l'' : Option (List ℕ))
    → MovedKnown t t' g f l f' l' → MovedKnown t' t'' h f' l' f'' l'' → MovedKnown t t'' (λ x. g (h x)) f l f'' l''
moved_then t t' t'' g h f f' f'' None l' l'' p q = tt
moved_then t t' t'' g h f f' f'' (Some a) None l'' p q = absurd p
moved_then t t' t'' g h f f' f'' (Some a) (Some b) None p q = absurd q
moved_then t t' t'' g h f f' f'' (Some a) (Some b) (Some c) p q = record {
  whole = p.whole ∙ ap g q.whole;
  goes_on = λ e. let r = q.goes_on e in let s = p.goes_on r.0 in (s.0, omega (arith, r.1, s.1));
  parts = λ e n le. let r = q.goes_on e in p.parts r.0 n (omega (arith, r.1, le)) ∙ ap g (q.parts e n le);
}

-- the same, where what was given has another spelling
pub moved_same : {T : Type 0} (t t' : Window → T) (g h : T → T) (f f' : FeedState) (l l' : Option (List ℕ)) → ((x : T) → g x ≡ h x) → MovedKnown t t' g f l f' l' → MovedKnown t t' h f l f' l'
moved_same t t' g h f f' None l' same p = tt
moved_same t t' g h f f' (Some a) None same p = absurd p
moved_same t t' g h f f' (Some a) (Some b) same p = record {
  whole = p.whole ∙ same (t' (window f' b));
  goes_on = p.goes_on;
  parts = λ e n le. p.parts e n le ∙ same (t' (so_far f' b n));
}

-- seen another way
pub moved_as : {T U : Type 0} (t t' : Window → T) (u u' : Window → U) (g : T → T) (h : U → U) (before after : T → U) (f f' : FeedState) (l l' : Option (List ℕ))
    → ((w : Window) → before (t w) ≡ u w) → ((w : Window) → after (t' w) ≡ u' w) → ((x : T) → before (g x) ≡ h (after x))
    → MovedKnown t t' g f l f' l' → MovedKnown u u' h f l f' l'
moved_as t t' u u' g h before after f f' None l' first last same p = tt
moved_as t t' u u' g h before after f f' (Some a) None first last same p = absurd p
moved_as t t' u u' g h before after f f' (Some a) (Some b) first last same p =
    let step : (v w : Window) → t v ≡ g (t' w) → u v ≡ h (u' w) = λ v w e. sym (first v) ∙ ap before e ∙ same (t' w) ∙ ap h (last w) in
    record {
      whole = step (window f a) (window f' b) p.whole;
      goes_on = p.goes_on;
      parts = λ e n le. step (so_far f a n) (so_far f' b n) (p.parts e n le);
    }

ends_by : {T : Type 0} (t t' : Window → T) (bare : Ending → T) (f f' : FeedState) (a b : List ℕ) (n : ℕ) (e : Ending) (fault : Bool) → Moved t t' (λ x. x) f a f' b
    → MatchBool fault (Broke t' bare f' b n) (t' (window f' b) ≡ bare e) → MatchBool fault (Broke t bare f a n) (t (window f a) ≡ bare e)
ends_by t t' bare f f' a b n e true m q =
    let on = m.goes_on q.goes_on in
    record { goes_on = on.0; fewer = omega (arith, on.1, q.fewer); ending = q.ending; nothing = m.parts q.goes_on n q.fewer ∙ q.nothing }
ends_by t t' bare f f' a b n e false m q = m.whole ∙ q

-- nothing was given before the end
pub ends_after : {T : Type 0} (t t' : Window → T) (bare : Ending → T) (f f' : FeedState) (l l' l'' : Option (List ℕ)) (e : Ending)
    → MovedKnown t t' (λ x. x) f l f' l' → EndsKnown t' bare f' l' l'' e → EndsKnown t bare f l l'' e
ends_after t t' bare f f' None l' l'' e m q = tt
ends_after t t' bare f f' (Some a) None l'' e m q = absurd m
ends_after t t' bare f f' (Some a) (Some b) None e m q = absurd q
ends_after t t' bare f f' (Some a) (Some b) (Some c) e m q = ends_by t t' bare f f' a b (length c) e (is_read_fault e) m q

ends_seen : {T U : Type 0} (t : Window → T) (u : Window → U) (bare : Ending → T) (nothing : Ending → U) (see : T → U) (f : FeedState) (a : List ℕ) (n : ℕ) (e : Ending) (fault : Bool)
    → ((w : Window) → see (t w) ≡ u w) → ((x : Ending) → see (bare x) ≡ nothing x)
    → MatchBool fault (Broke t bare f a n) (t (window f a) ≡ bare e) → MatchBool fault (Broke u nothing f a n) (u (window f a) ≡ nothing e)
ends_seen t u bare nothing see f a n e true seen same q =
    record { goes_on = q.goes_on; fewer = q.fewer; ending = q.ending; nothing = sym (seen (so_far f a n)) ∙ ap see q.nothing ∙ same q.ending }
ends_seen t u bare nothing see f a n e false seen same q = sym (seen (window f a)) ∙ ap see q ∙ same e

-- seen another way
pub ends_as : {T U : Type 0} (t : Window → T) (u : Window → U) (bare : Ending → T) (nothing : Ending → U) (see : T → U) (f : FeedState) (l l' : Option (List ℕ)) (e : Ending)
    → ((w : Window) → see (t w) ≡ u w) → ((x : Ending) → see (bare x) ≡ nothing x) → EndsKnown t bare f l l' e → EndsKnown u nothing f l l' e
ends_as t u bare nothing see f None l' e seen same q = tt
ends_as t u bare nothing see f (Some a) None e seen same q = absurd q
ends_as t u bare nothing see f (Some a) (Some b) e seen same q = ends_seen t u bare nothing see f a (length b) e (is_read_fault e) seen same q

-- ---- items as paths

pub item_path : (f : Format) (s : f.State) (place heads : ℕ) (i : f.Item) (r : Rest f)
    → as_paths f s place heads (after_item f i r) ≡ after_paths (path_here (place + length (f.spell i)) heads (f.path_of s i)) (as_paths f (f.after s i) (place + length (f.spell i)) (heads + f.head_of i) r)
item_path f s place heads i r =
    let same : heads + (f.head_of i + heads_of f r.items) ≡ heads + f.head_of i + heads_of f r.items = omega arith in
    ap (λ (n : ℕ). record { paths = paths_of f s place heads (i ∷ r.items); ending = r.ending; place = r.place; heads = n }) same

pub nothing_path : (f : Format) (s : f.State) (at heads place : ℕ) (e : Ending) → as_paths f s at heads (no_items f place e) ≡ no_paths place heads e
nothing_path f s at heads place e =
    let same : heads + 0 ≡ heads = omega arith in
    ap (λ (n : ℕ). no_paths place n e) same
