-- What is drawn of a file, and what is seen of it then.
use Rattle.std.proofs.Common.{◌≡◌, ℕ, ◌+◌, ◌-◌, ◌^◌, ◌≤◌, Bool, true, false, cond, List, length, take, drop, Option, Some, None, IfSome, refl, sym, ap, subst, ◌∙◌, length-drop, arith}
use Rattle.std.specs.Prelude.{nat_le}
use Rattle.loc_outside.specs.Causes.{Rose, raised}
use Rattle.byte_feed.specs.Front.{Window, limit, readable}
use Rattle.byte_feed.specs.Feed.{FeedState, empty_at, window, so_far, reach, Draws}
use Rattle.byte_feed.specs.Paths.{ToCome}
use Rattle.byte_feed.specs.Calls.{Moved}
use Rattle.any_db.specs.Formats.{to_come_in, contents, contents_of_part}
use Rattle.any_db.specs.Reader.{fresh, feed_of}
use Rattle.any_db.specs.declared.any_reader.AnyReader.{AnyReader}
use Rattle.locate_engine.specs.Files.{ReadsWithin}
use Rattle.locate_engine.specs.Searched.{is_read_fault, seen_in}
use Rattle.locate_engine.specs.Sight.{Reads}
use Rattle.locate_engine.specs.Streamed.{seen_of}
use Rattle.locate_engine.specs.declared.outcome.Outcome.{Outcome}
use Rattle.locate_engine.specs.declared.outcome.Outcome.TheVariants as outcomes
use Rattle.locate_engine.proofs.Endings.{is_the_read_fault}

-- ---- from the first byte on

pub whole_window : (file : List ℕ) → window (empty_at 0) file ≡ readable file
whole_window file =
    let end : 0 + length file ≡ length file = omega arith in
    let room : limit - 0 ≡ limit = omega arith in
    ap (λ (n : ℕ). record { bytes = take (limit - 0) file; more = nat_le limit n }) end ∙ ap (λ (n : ℕ). record { bytes = take n file; more = nat_le limit (length file) }) room

-- so much was given of it
part_window : (file left : List ℕ) (n : ℕ) → n ≤ length file → left ≡ drop n file
    → so_far (empty_at 0) file (length left) ≡ record { bytes = take limit (take n file); more = true }
part_window file left n fits rest =
    let all : length file - length left ≡ n = omega (arith, fits, ap length rest, length-drop n file) in
    let room : limit - 0 ≡ limit = omega arith in
    ap (λ (k : ℕ). record { bytes = take (limit - 0) (take k file); more = true }) all ∙ ap (λ (k : ℕ). record { bytes = take k (take n file); more = true }) room

raised_gap : (g n : ℕ) → g ≤ 2 ^ 63 → n ≤ 2 ^ 40 → raised g n - g ≡ n
raised_gap g n small fits = omega (arith, small, fits)

-- ---- how much was drawn

-- no more than was left
pub fewer_left : (f f' : FeedState) (g g' : ℕ) (l l' : List ℕ) → Draws f f' g g' (Some l) (Some l') → length l' ≤ length l
fewer_left f f' g g' l l' drawn = omega (arith, ap length drawn.rest.1, length-drop (reach f' - reach f) l)

-- what was drawn up to the limit was given
pub reads_drawn : (f f' : FeedState) (g g' : ℕ) (l l' : Option (List ℕ)) (failed failed' : ℕ) (result : Outcome) → Draws f f' g g' l l' → reach f' ≤ 2 ^ 40 → failed ≤ failed' → (result ≡ outcomes.ReadFault → Rose failed failed')
    → Reads g g' failed failed' result
reads_drawn f f' g g' l l' failed failed' result drawn far later fault = record {
  gives = omega (arith, drawn.count);
  within = omega (arith, drawn.count, far);
  later = later;
  fault = fault;
}

-- ---- how much was read of a file

-- all of the file that was drawn, and no more
once_by : (f : FeedState) (g g' : ℕ) (file left : List ℕ) (result : Outcome) → Draws (empty_at 0) f g g' (Some file) (Some left) → (result ≡ outcomes.Whole → f.ended ≡ true) → (result ≡ outcomes.TooLarge → reach f ≡ 2 ^ 40) → ReadsWithin file g g' result
once_by f g g' file left result drawn whole large =
    let n : ℕ = reach f - reach (empty_at 0) in
    record {
      most = omega (arith, drawn.count, drawn.rest.0);
      whole = λ is.
          let all : n ≡ length file = omega (arith, drawn.rest.0, ap length drawn.rest.1, ap length (drawn.ends refl (whole is)), length-drop n file) in
          drawn.count ∙ ap (raised g) all;
      too_large = λ is.
          let all : n ≡ 2 ^ 40 = omega (arith, large is) in
          drawn.count ∙ ap (raised g) all;
    }

once_drawn : (f : FeedState) (g g' : ℕ) (l l' : Option (List ℕ)) (result : Outcome) → Draws (empty_at 0) f g g' l l' → (result ≡ outcomes.Whole → f.ended ≡ true) → (result ≡ outcomes.TooLarge → reach f ≡ 2 ^ 40) → IfSome l (λ file. ReadsWithin file g g' result)
once_drawn f g g' None l' result drawn whole large = tt
once_drawn f g g' (Some file) None result drawn whole large = absurd drawn.rest
once_drawn f g g' (Some file) (Some left) result drawn whole large = once_by f g g' file left result drawn whole large

-- by a reader that had read nothing
pub once_opened : (r : AnyReader) → r ≡ fresh → (f : FeedState) (g g' : ℕ) (l l' : Option (List ℕ)) (result : Outcome) → Draws (feed_of r.stage) f g g' l l' → (result ≡ outcomes.Whole → f.ended ≡ true) → (result ≡ outcomes.TooLarge → reach f ≡ 2 ^ 40)
    → IfSome l (λ file. ReadsWithin file g g' result)
once_opened r new f g g' l l' result drawn whole large = once_drawn f g g' l l' result (subst (λ (q : AnyReader). Draws (feed_of q.stage) f g g' l l') new drawn) whole large

-- ---- what is seen of a file

-- what is seen of a file that is read from its first byte on, as far as it was drawn
seen_file : (b : Bool) (file left : List ℕ) (n k : ℕ) → n ≤ length file → left ≡ drop n file → (b ≡ true → k ≡ n)
    → to_come_in (cond b (so_far (empty_at 0) file (length left)) (window (empty_at 0) file)) ≡ cond b (contents_of_part k file) (contents file)
seen_file true file left n k fits rest same = ap to_come_in (part_window file left n fits rest) ∙ ap (λ (c : ℕ). contents_of_part c file) (sym (same refl))
seen_file false file left n k fits rest same = ap to_come_in (whole_window file)

pub seen_by : (f : FeedState) (g g' : ℕ) (file left : List ℕ) (result : Outcome) → Draws (empty_at 0) f g g' (Some file) (Some left) → reach f ≤ 2 ^ 40 → (result ≡ outcomes.ReadFault → g ≤ 2 ^ 63)
    → seen_of to_come_in (empty_at 0) file (length left) result ≡ seen_in file (g' - g) result
seen_by f g g' file left result drawn far small =
    let n : ℕ = reach f - reach (empty_at 0) in
    let fits : n ≤ 2 ^ 40 = omega (arith, far) in
    let gap : is_read_fault result ≡ true → g' - g ≡ n = λ failed. ap (λ (k : ℕ). k - g) drawn.count ∙ raised_gap g n (small (is_the_read_fault result failed)) fits in
    seen_file (is_read_fault result) file left n (g' - g) drawn.rest.0 drawn.rest.1 gap

-- the same, before nothing was given off the front
pub seen_later : (b : Bool) (t t' : Window → ToCome) (f f' : FeedState) (l l' : List ℕ) (n : ℕ) → Moved t t' (λ x. x) f l f' l' → (b ≡ true → f'.ended ≡ false) → n ≤ length l'
    → t' (cond b (so_far f' l' n) (window f' l')) ≡ t (cond b (so_far f l n) (window f l))
seen_later true t t' f f' l l' n moved on fewer = sym (moved.parts (on refl) n fewer)
seen_later false t t' f f' l l' n moved on fewer = sym moved.whole
