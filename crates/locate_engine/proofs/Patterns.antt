-- What a query wants, told by a test, and the loops over its patterns.
use Rattle.std.proofs.Common.{◌≡◌, ℕ, ◌+◌, ◌<◌, ◌≤◌, Bool, true, false, List, [], ◌∷◌, ◌++◌, length, take, get_or, Some, cond, refl, sym, ap, subst, ◌∙◌, arith}
use Rattle.std.specs.Prelude.{nat_eq, ◌&&◌, ◌||◌, All, Any, Contains, sum_by, slice_get, MatchBool}
use Rattle.std.specs.Bool.{Decides}
use Rattle.std.specs.List.{list_any, list_all}
use Rattle.std.proofs.lemmas.Bool.Decides.{Decides-eqb, Decides-and}
use Rattle.std.proofs.lemmas.List.Folds.{Any-from_list_any, list_any-from_Any, list_any_at, list_all_at, list_any_more, list_all_more}
use Rattle.std.proofs.lemmas.List.Sums.{AllPass-from_list_all, list_all-from_AllPass, sum_by-take-le, sum_by_push}
use Rattle.std.proofs.lemmas.List.{take_more}
use Rattle.std.proofs.lemmas.Map.Views.{Contains-from_any}
use Rattle.std.proofs.lemmas.Option.{get_or_from_slice_get}
use Rattle.memchr.specs.Find.{OccursAt}
use Rattle.glob_match.specs.Item.{Item, Star, OneOf}
use Rattle.glob_match.specs.Language.{Matches}
use Rattle.glob_match.specs.Pattern.{Wanted, Plain, Listed, InGlob}
use Rattle.locate_engine.specs.declared.query.Query.{Query}
use Rattle.locate_engine.specs.Globs.{tails, match_whole, in_glob, judged, wanted, Wants}
use Rattle.locate_engine.proofs.Occurs.{occurs_at, place_of}

-- ---- one pattern

no_true : false ≡ true → ⊥
no_true e = absurd cc

-- some tail passes just where the text is two parts of which the second passes
parts : (p : List ℕ → Bool) (P : List ℕ → Type 0) → ((t : List ℕ) → Decides (p t) (P t)) → (text : List ℕ)
    → Decides (list_any p (tails text)) ((front : List ℕ) × (rest : List ℕ) × (text ≡ front ++ rest) × P rest)
parts p P is text = (split text, joined text)
  where
    first : (byte : ℕ) (text : List ℕ) (b : Bool) → p (byte ∷ text) ≡ b → (b || list_any p (tails text)) ≡ true
        → (list_any p (tails text) ≡ true → (front : List ℕ) × (rest : List ℕ) × (text ≡ front ++ rest) × P rest)
        → (front : List ℕ) × (rest : List ℕ) × ((byte ∷ text) ≡ front ++ rest) × P rest
    first byte text true here e later = ([], byte ∷ text, refl, (is (byte ∷ text)).0 here)
    first byte text false here e later = let l = later e in (byte ∷ l.0, l.1, ap (λ (t : List ℕ). byte ∷ t) l.2, l.3)

    split : (text : List ℕ) → list_any p (tails text) ≡ true → (front : List ℕ) × (rest : List ℕ) × (text ≡ front ++ rest) × P rest
    split [] e = ([], [], refl, (is []).0 (alone (p []) e))
      where
        alone : (b : Bool) → (b || false) ≡ true → b ≡ true
        alone true e = refl
        alone false e = e
    split (byte ∷ text) e = first byte text (p (byte ∷ text)) refl e (split text)

    or_first : (a b : Bool) → a ≡ true → (a || b) ≡ true
    or_first a b e = ap (λ c. c || b) e

    or_later : (a b : Bool) → b ≡ true → (a || b) ≡ true
    or_later true b e = refl
    or_later false b e = e

    at_front : (text rest : List ℕ) → text ≡ rest → P rest → list_any p (tails text) ≡ true
    at_front [] rest e holds = or_first (p []) false ((is []).1 (subst P (sym e) holds))
    at_front (byte ∷ text) rest e holds = or_first (p (byte ∷ text)) _ ((is (byte ∷ text)).1 (subst P (sym e) holds))

    joins : (text front rest : List ℕ) → text ≡ front ++ rest → P rest → list_any p (tails text) ≡ true
    joins text [] rest e holds = at_front text rest e holds
    joins [] (x ∷ front) rest e holds = absurd (omega (arith, ap length e))
    joins (byte ∷ text) (x ∷ front) rest e holds = or_later (p (byte ∷ text)) _ (joins text front rest (ap tail e) holds)
      where
        tail : List ℕ → List ℕ
        tail [] = []
        tail (y ∷ ys) = ys

    joined : (text : List ℕ) → ((front : List ℕ) × (rest : List ℕ) × (text ≡ front ++ rest) × P rest) → list_any p (tails text) ≡ true
    joined text h = joins text h.0 h.1 h.2 h.3

has : (byte : ℕ) (bytes : List ℕ) → Decides (list_any (nat_eq byte) bytes) (Contains bytes byte)
has byte bytes = (
  λ e. Contains-from_any (λ x y. (Decides-eqb x y).0) byte bytes e,
  λ h. list_any_at (nat_eq byte) bytes h.0 byte h.1 ((Decides-eqb byte _).1 (sym h.2)),
)

pub match_whole_is : (items : List Item) (text : List ℕ) → Decides (match_whole items text) (Matches items text)
match_whole_is [] [] = (λ _. refl, λ _. refl)
match_whole_is [] (byte ∷ text) = (λ e. absurd (no_true e), λ e. absurd (omega (arith, ap length e)))
match_whole_is (Star ∷ items) text = parts (match_whole items) (Matches items) (match_whole_is items) text
match_whole_is (OneOf bytes ∷ items) [] = (λ e. absurd (no_true e), λ h. absurd h)
match_whole_is (OneOf bytes ∷ items) (byte ∷ text) = Decides-and _ _ (has byte bytes) (match_whole_is items text)

pub in_glob_is : (glob : Wanted) (text : List ℕ) → Decides (in_glob glob text) (InGlob glob text)
in_glob_is (Plain bytes) text = (
  λ e. place_of text bytes ((place : ℕ) × OccursAt text bytes place) e (λ place at. (place, at)),
  λ h. occurs_at text bytes h.0 h.1,
)
in_glob_is (Listed items) text = match_whole_is items text

-- ---- all patterns

pub wanted_is : (q : Query) (path : List ℕ) → Decides (wanted q path) (Wants q path)
wanted_is q path = by q.all
  where
    text : List ℕ
    text = judged q.base path

    test : Wanted → Bool
    test glob = in_glob glob text

    by : (all : Bool) → Decides (cond all (list_all test q.globs) (list_any test q.globs)) (MatchBool all (All (λ glob. InGlob glob text) q.globs) (Any (λ glob. InGlob glob text) q.globs))
    by true = (
      λ e k d lt. (in_glob_is _ text).0 (AllPass-from_list_all test q.globs e k d lt),
      λ h. list_all-from_AllPass test q.globs (λ k d lt. (in_glob_is _ text).1 (h k d lt)),
    )
    by false = (
      λ e. let a = Any-from_list_any test q.globs e in (a.0, a.1, a.2, a.3, (in_glob_is a.1 text).0 a.4),
      λ h. list_any-from_Any test q.globs (h.0, h.1, h.2, h.3, (in_glob_is h.1 text).1 h.4),
    )

-- ---- loops over the patterns

-- one pattern more
step_more : (f : Wanted → ℕ) (globs : List Wanted) (i : ℕ) (glob : Wanted) → i < length globs → slice_get globs i ≡ Some glob → sum_by f (take (i + 1) globs) ≡ sum_by f (take i globs) + f glob
step_more f globs i glob lt at = ap (sum_by f) (take_more globs i glob lt) ∙ sum_by_push f (take i globs) (get_or globs i glob) ∙ ap (λ (g : Wanted). sum_by f (take i globs) + f g) (get_or_from_slice_get globs i glob glob at)

-- the first i patterns answered so, and took no more steps than they may
pub record Asked (some : Bool) (test : Wanted → Bool) (cost : Wanted → ℕ) (globs : List Wanted) (i start steps : ℕ) : Type 0 where
  pub answered : MatchBool some (list_any test (take i globs) ≡ false) (list_all test (take i globs) ≡ true)
  pub later : start ≤ steps
  pub within : steps ≤ start + sum_by cost (take i globs)

module _ (test : Wanted → Bool) (cost : Wanted → ℕ) (globs : List Wanted) (i start s s' : ℕ) (glob : Wanted) (lt : i < length globs) (at : slice_get globs i ≡ Some glob) (fits : s' ≤ s + cost glob) where
  pub any_more : Asked true test cost globs i start s → s ≤ s' → test glob ≡ false → Asked true test cost globs (i + 1) start s'
  any_more asked rises failed = record {
    answered = list_any_more test globs i glob lt ∙ ap (λ (b : Bool). b || test (get_or globs i glob)) asked.answered ∙ ap test (get_or_from_slice_get globs i glob glob at) ∙ failed;
    later = omega (arith, asked.later, rises);
    within = omega (arith, asked.within, fits, step_more cost globs i glob lt at);
  }

  pub all_more : Asked false test cost globs i start s → s ≤ s' → test glob ≡ true → Asked false test cost globs (i + 1) start s'
  all_more asked rises passed = record {
    answered = list_all_more test globs i glob lt ∙ ap (λ (b : Bool). b && test (get_or globs i glob)) asked.answered ∙ ap test (get_or_from_slice_get globs i glob glob at) ∙ passed;
    later = omega (arith, asked.later, rises);
    within = omega (arith, asked.within, fits, step_more cost globs i glob lt at);
  }

  pub any_here : test glob ≡ true → true ≡ list_any test globs
  any_here passed = sym (list_any_at test globs i glob lt (ap test (get_or_from_slice_get globs i glob glob at) ∙ passed))

  pub none_here : test glob ≡ false → false ≡ list_all test globs
  none_here failed = sym (list_all_at test globs i glob lt (ap test (get_or_from_slice_get globs i glob glob at) ∙ failed))

  pub within_all : (some : Bool) → Asked some test cost globs i start s → s' ≤ start + sum_by cost globs
  within_all some asked = omega (arith, asked.within, fits, step_more cost globs i glob lt at, sum_by-take-le cost globs (i + 1))
