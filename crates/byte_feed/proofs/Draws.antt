-- What is drawn from a source, call by call.
use Rattle.std.proofs.Common.{◌≡◌, ℕ, ◌+◌, ◌-◌, ◌≤◌, Bool, true, false, List, length, drop, Option, Some, None, refl, sym, ap, ◌∙◌, length-append, length-drop, arith}
use Rattle.std.specs.Io.KnownBytes.{Consumes, IsAtEnd}
use Rattle.std.proofs.lemmas.List.{drop-drop, drop_at}
use Rattle.loc_outside.specs.Causes.{raised}
use Rattle.byte_feed.specs.Feed.{FeedState, reach, LeftAfter, NoneLeft, Draws, Takes}

pub raised_none : (g : ℕ) → raised g 0 ≡ g
raised_none g = omega arith

pub raised_more : (g n m : ℕ) → raised (raised g n) m ≡ raised g (n + m)
raised_more g n m = omega arith

left_same : (l : Option (List ℕ)) → LeftAfter 0 l l
left_same None = tt
left_same (Some a) = (omega arith, refl)

pub left_then : (n m : ℕ) (l l' l'' : Option (List ℕ)) → LeftAfter n l l' → LeftAfter m l' l'' → LeftAfter (n + m) l l''
left_then n m None l' l'' p q = tt
left_then n m (Some a) None l'' p q = absurd p
left_then n m (Some a) (Some b) None p q = absurd q
left_then n m (Some a) (Some b) (Some c) p q =
    (omega (arith, p.0, q.0, ap length p.1, length-drop n a), q.1 ∙ ap (drop m) p.1 ∙ drop-drop m n a)

pub left_taken : (l l' : Option (List ℕ)) (got : List ℕ) → Consumes l l' got → LeftAfter (length got) l l'
left_taken None l' got e = tt
left_taken (Some a) None got e = absurd e
left_taken (Some a) (Some b) got e = (omega (arith, ap length e, length-append got b), sym (ap (drop (length got)) e ∙ drop_at got b (length got) refl))

open_shut : (b : Bool) → b ≡ false → b ≡ true → ⊥
open_shut b e h = absurd cc

pub at_end : (l l' : Option (List ℕ)) → IsAtEnd l' → NoneLeft l l'
at_end None l' end = tt
at_end (Some a) l' end = end

-- nothing was drawn
pub draws_still : (f f' : FeedState) (g g' : ℕ) (l l' : Option (List ℕ)) → reach f' ≡ reach f → f'.ended ≡ f.ended → g' ≡ g → l' ≡ l → Draws f f' g g' l l'
draws_still f f' g g' l l' same still given left =
    let gap : reach f' - reach f ≡ 0 = omega (arith, same) in
    record {
      forth = omega (arith, same);
      shut = λ e. (still ∙ e, same);
      count = given ∙ sym (ap (raised g) gap ∙ raised_none g);
      rest = rw (gap, left) (left_same l);
      ends = λ going ended. absurd (open_shut f.ended going (sym still ∙ ended));
    }

pub draws_none : (f : FeedState) (g : ℕ) (l : Option (List ℕ)) → Draws f f g g l l
draws_none f g l = draws_still f f g g l l refl refl refl refl

-- these bytes were drawn from a source that had not ended
pub draws_got : (f f' : FeedState) (g g' : ℕ) (l l' : Option (List ℕ)) (got : List ℕ) → f.ended ≡ false → reach f' ≡ reach f + length got → g' ≡ raised g (length got) → Consumes l l' got → (f'.ended ≡ true → IsAtEnd l') → Draws f f' g g' l l'
draws_got f f' g g' l l' got going more given taken none =
    let gap : reach f' - reach f ≡ length got = omega (arith, more) in
    record {
      forth = omega (arith, more);
      shut = λ e. absurd (open_shut f.ended going e);
      count = given ∙ ap (raised g) (sym gap);
      rest = rw gap (left_taken l l' got taken);
      ends = λ _ ended. at_end l l' (none ended);
    }

-- where nothing is left, nothing more was taken
none_left_then : (l l' l'' : Option (List ℕ)) (n m : ℕ) → m ≡ 0 → LeftAfter n l l' → LeftAfter m l' l'' → NoneLeft l l' → NoneLeft l l''
none_left_then None l' l'' n m none p q end = tt
none_left_then (Some a) None l'' n m none p q end = absurd p
none_left_then (Some a) (Some b) None n m none p q end = absurd q
none_left_then (Some a) (Some b) (Some c) n m none p q end = q.1 ∙ ap (λ (k : ℕ). drop k b) none ∙ end

later_left : (l l' l'' : Option (List ℕ)) (n : ℕ) → LeftAfter n l l' → NoneLeft l' l'' → NoneLeft l l''
later_left None l' l'' n p end = tt
later_left (Some a) None l'' n p end = absurd p
later_left (Some a) (Some b) l'' n p end = end

ends_then : (f f' f'' : FeedState) (g g' g'' : ℕ) (l l' l'' : Option (List ℕ)) (b : Bool) → f'.ended ≡ b → Draws f f' g g' l l' → Draws f' f'' g' g'' l' l'' → f.ended ≡ false → f''.ended ≡ true → NoneLeft l l''
ends_then f f' f'' g g' g'' l l' l'' true is p q going ended = none_left_then l l' l'' (reach f' - reach f) (reach f'' - reach f') (omega (arith, (q.shut is).1)) p.rest q.rest (p.ends going is)
ends_then f f' f'' g g' g'' l l' l'' false is p q going ended = later_left l l' l'' (reach f' - reach f) p.rest (q.ends is ended)

pub draws_then : (f f' f'' : FeedState) (g g' g'' : ℕ) (l l' l'' : Option (List ℕ)) → Draws f f' g g' l l' → Draws f' f'' g' g'' l' l'' → Draws f f'' g g'' l l''
draws_then f f' f'' g g' g'' l l' l'' p q =
    let gap : reach f'' - reach f ≡ (reach f' - reach f) + (reach f'' - reach f') = omega (arith, p.forth, q.forth) in
    record {
      forth = omega (arith, p.forth, q.forth);
      shut = λ e. let r = p.shut e in let s = q.shut r.0 in (s.0, s.1 ∙ r.1);
      count = q.count ∙ ap (λ (n : ℕ). raised n (reach f'' - reach f')) p.count ∙ raised_more g (reach f' - reach f) (reach f'' - reach f') ∙ ap (raised g) (sym gap);
      rest = rw gap (left_then (reach f' - reach f) (reach f'' - reach f') l l' l'' p.rest q.rest);
      ends = ends_then f f' f'' g g' g'' l l' l'' f'.ended refl p q;
    }

-- ---- all bytes of a source

pub takes_all : (most g g' : ℕ) (l l' : Option (List ℕ)) (got : List ℕ) → length got ≤ most → g' ≡ raised g (length got) → Consumes l l' got → Takes most g g' l l'
takes_all most g g' l l' got fits given taken = record { taken = length got; fits = fits; count = given; rest = left_taken l l' got taken }

-- so many bytes more were taken and lost
pub takes_more : (most g g' g'' : ℕ) (l l' l'' : Option (List ℕ)) (got more : List ℕ) → length got + length more ≤ most
    → g' ≡ raised g (length got) → Consumes l l' got → g'' ≡ raised g' (length more) → Consumes l' l'' more → Takes most g g'' l l''
takes_more most g g' g'' l l' l'' got more fits given taken given' taken' = record {
  taken = length got + length more;
  fits = fits;
  count = given' ∙ ap (λ (n : ℕ). raised n (length more)) given ∙ raised_more g (length got) (length more);
  rest = left_then (length got) (length more) l l' l'' (left_taken l l' got taken) (left_taken l' l'' more taken');
}
