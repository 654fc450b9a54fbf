-- Paths that are read one after another into a list.
use Rattle.std.proofs.Common.{◌≡◌, ℕ, ◌+◌, ◌-◌, List, [], ◌∷◌, ◌++◌, map, length, take, Option, Some, None, Result, Ok, Err, IfSome, All, sym, subst, ap, ◌∙◌, append-nil, append_assoc, arith}
use Rattle.std.specs.Prelude.{nat_le}
use Rattle.std.proofs.lemmas.List.{map-append}
use Rattle.byte_feed.specs.declared.damage.DbFault.{DbFault}
use Rattle.byte_feed.specs.declared.damage.DbFault.TheVariants as faults
use Rattle.byte_feed.specs.Front.{Window, limit, readable}
use Rattle.byte_feed.specs.Feed.{FeedState, empty_at, window}
use Rattle.byte_feed.specs.Paths.{PathAt, ToCome, IsPath, after_paths, no_paths, GivesWhole}
use Rattle.byte_feed.specs.Calls.{Moved, MovedKnown, EndsKnown}
use Rattle.db_convert.specs.declared.fault.ListFault.{ListFault}
use Rattle.db_convert.specs.declared.fault.ListFault.TheVariants.{File, OutOfMemory}
use Rattle.db_convert.specs.Reading.{Answers, EndsWith}
use Rattle.db_convert.specs.Gathered.{Gathered}

abbrev pub texts : List PathAt → List (List ℕ)
texts given = map (λ (p : PathAt). p.text) given

-- one path more
pub one_more : (given : List PathAt) (p : PathAt) (z : ToCome) → after_paths given (after_paths (p ∷ []) z) ≡ after_paths (given ++ p ∷ []) z
one_more given p z = ap (λ (ps : List PathAt). record { paths = ps; ending = z.ending; place = z.place; heads = z.heads }) (sym (append_assoc given (p ∷ []) z.paths))

pub texts_more : (paths : List (List ℕ)) (given : List PathAt) (p : PathAt) (text : List ℕ) → paths ≡ texts given → text ≡ p.text → paths ++ text ∷ [] ≡ texts (given ++ p ∷ [])
texts_more paths given p text are is = (λ i. are i ++ is i ∷ []) ∙ sym (map-append (λ (q : PathAt). q.text) given (p ∷ []))

-- lack of memory tells nothing
pub any_answer : (t : Window → ToCome) (f : FeedState) (l : Option (List ℕ)) → IfSome l (λ left. Answers (t (window f left)) (Err OutOfMemory))
any_answer t f None = tt
any_answer t f (Some left) = tt

ends_with : (t : ToCome) (given : List PathAt) (place heads : ℕ) (e : DbFault) → t ≡ after_paths given (no_paths place heads (Err e)) → EndsWith t (File e)
ends_with t given place heads faults.NotADatabase is = ap (λ (z : ToCome). z.ending) is
ends_with t given place heads (faults.Damage d) is = ap (λ (z : ToCome). z.ending) is
ends_with t given place heads faults.ReadFault is = tt
ends_with t given place heads faults.TooLarge is = ap (λ (z : ToCome). z.ending) is

module _ (t t' : Window → ToCome) (given : List PathAt) (place heads : ℕ) (f f' : FeedState) where
  fault_by : (a b c : List ℕ) (e : DbFault) → Moved t t' (after_paths given) f a f' b → EndsKnown t' (no_paths place heads) f' (Some b) (Some c) (Err e) → EndsWith (t (window f a)) (File e)
  fault_by a b c faults.NotADatabase m q = ends_with _ given place heads faults.NotADatabase (m.whole ∙ ap (after_paths given) q)
  fault_by a b c (faults.Damage d) m q = ends_with _ given place heads (faults.Damage d) (m.whole ∙ ap (after_paths given) q)
  fault_by a b c faults.ReadFault m q = tt
  fault_by a b c faults.TooLarge m q = ends_with _ given place heads faults.TooLarge (m.whole ∙ ap (after_paths given) q)

  -- how the file ends after these paths
  pub fault_answers : (l l' l'' : Option (List ℕ)) (e : DbFault) → MovedKnown t t' (after_paths given) f l f' l' → EndsKnown t' (no_paths place heads) f' l' l'' (Err e) → IfSome l (λ left. Answers (t (window f left)) (Err (File e)))
  fault_answers None l' l'' e m q = tt
  fault_answers (Some a) None l'' e m q = absurd m
  fault_answers (Some a) (Some b) None e m q = absurd q
  fault_answers (Some a) (Some b) (Some c) e m q = fault_by a b c e m q

  whole_by : (a b c : List ℕ) (paths : List (List ℕ)) → paths ≡ texts given → Moved t t' (after_paths given) f a f' b → t' (window f' b) ≡ no_paths place heads (Ok tt) → GivesWhole (t (window f a)) paths
  whole_by a b c paths are m q =
      let all : t (window f a) ≡ after_paths given (no_paths place heads (Ok tt)) = m.whole ∙ ap (after_paths given) q in
      record { texts = ap (λ (z : ToCome). texts z.paths) all ∙ ap texts (append-nil given) ∙ sym are; ends = ap (λ (z : ToCome). z.ending) all }

  pub whole_answers : (l l' l'' : Option (List ℕ)) (paths : List (List ℕ)) → paths ≡ texts given → MovedKnown t t' (after_paths given) f l f' l' → EndsKnown t' (no_paths place heads) f' l' l'' (Ok tt) → IfSome l (λ left. Answers (t (window f left)) (Ok paths))
  whole_answers None l' l'' paths are m q = tt
  whole_answers (Some a) None l'' paths are m q = absurd m
  whole_answers (Some a) (Some b) None paths are m q = absurd q
  whole_answers (Some a) (Some b) (Some c) paths are m q = whole_by a b c paths are m q

-- before which nothing was given off
pub answers_before : (t t' : Window → ToCome) (f f' : FeedState) (l l' : Option (List ℕ)) (r : Result (List (List ℕ)) ListFault) → MovedKnown t t' (λ z. z) f l f' l' → IfSome l' (λ left. Answers (t' (window f' left)) r) → IfSome l (λ left. Answers (t (window f left)) r)
answers_before t t' f f' None l' r m q = tt
answers_before t t' f f' (Some a) None r m q = absurd m
answers_before t t' f f' (Some a) (Some b) r m q = subst (λ (z : ToCome). Answers z r) (sym m.whole) q

-- a file from its first byte on
pub whole_window : (file : List ℕ) → window (empty_at 0) file ≡ readable file
whole_window file =
    let end : 0 + length file ≡ length file = omega arith in
    let room : limit - 0 ≡ limit = omega arith in
    ap (λ (n : ℕ). record { bytes = take (limit - 0) file; more = nat_le limit n }) end ∙ ap (λ (n : ℕ). record { bytes = take n file; more = nat_le limit (length file) }) room

pub file_answers : (t : Window → ToCome) (f : FeedState) (l : Option (List ℕ)) (r : Result (List (List ℕ)) ListFault) → f ≡ empty_at 0 → IfSome l (λ left. Answers (t (window f left)) r) → IfSome l (λ file. Answers (t (readable file)) r)
file_answers t f None r fresh q = tt
file_answers t f (Some file) r fresh q = subst (λ (w : Window). Answers (t w) r) (ap (λ (g : FeedState). window g file) fresh ∙ whole_window file) q

-- ---- what is taken in

-- what follows from one answer for another does so for paths that were taken in
pub gathered_by : (holds : List (List ℕ) → Type 0) (given other : List ℕ → ToCome) (l l' : Option (List ℕ)) (r : Result (Unit {0}) ListFault)
    → ((q : Result (List (List ℕ)) ListFault) → IfSome l (λ f. Answers (given f) q) → IfSome l' (λ f. Answers (other f) q)) → Gathered holds given l r → Gathered holds other l' r
gathered_by holds given other l l' (Ok whole) turn g = (g.0, g.1, g.2, turn (Ok g.0) g.3)
gathered_by holds given other l l' (Err fault) turn g = turn (Err fault) g

-- a list that took in the paths has them
pub list_answers : (p : List (List ℕ)) (given : List ℕ → ToCome) (l : Option (List ℕ)) → Gathered (λ paths. p ≡ paths) given l (Ok tt) → IfSome l (λ f. Answers (given f) (Ok p)) × All IsPath p
list_answers p given l g = (
  subst (λ (paths : List (List ℕ)). IfSome l (λ f. Answers (given f) (Ok paths))) (sym g.1) g.3,
  subst (All IsPath) (sym g.1) g.2,
)
