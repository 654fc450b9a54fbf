-- Paths that were gone through, one after another: what was printed, counted and asked.
use Rattle.std.proofs.Common.{append_assoc, ◌≡◌, ℕ, ◌+◌, ◌≤◌, Bool, true, false, not, cond, ◌&&◌, List, [], ◌∷◌, ◌++◌, length, map, filter, Option, Some, None, refl, sym, ap, subst, ◌∙◌, append-nil, length-append, arith}
use Rattle.std.specs.Prelude.{◌==◌, nat_eq, MatchBool}
use Rattle.std.specs.List.{dedup, dedup_from}
use Rattle.std.proofs.lemmas.Bool.{eqb-true}
use Rattle.std.proofs.lemmas.List.{map-append}
use Rattle.std.proofs.lemmas.List.Elements.{filter-append}
use Rattle.std.proofs.lemmas.List.Sums.{sum_by_push}
use Rattle.std.proofs.lemmas.Grind.{flat_map-append}
use Rattle.std.proofs.KnownBytes.{Appends-nil, Appends-trans}
use Rattle.std.specs.Io.KnownBytes.{Appends}
use Rattle.loc_outside.specs.Causes.{raised}
use Rattle.loc_outside.specs.Gates.{Tests}
use Rattle.byte_feed.specs.Paths.{PathAt}
use Rattle.byte_feed.proofs.Draws.{raised_none, raised_more}
use Rattle.locate_engine.specs.Passing.{Rule, block_of, dir_of, is_guarded, is_wanted, is_visible, passes, line_of, wanted_of, passing, lines, guarded_blocks, blocks_asked, paths_asked, due, OneDirectory}
use Rattle.locate_engine.specs.Searched.{Stand, steps_over}
use Rattle.locate_engine.specs.Asked.{is_last, Remembers, Knows, block_calls, path_calls, calls_due, is_shown, Through}
use Rattle.locate_engine.specs.declared.asking.Block.{Block}

-- ---- the last of a list of numbers, and what is left of it where repeats are dropped

abbrev pub last_or : ℕ → List ℕ → ℕ
last_or k [] = k
last_or k (x ∷ xs) = last_or x xs

abbrev pub last_of : List ℕ → Option ℕ
last_of [] = None
last_of (x ∷ xs) = Some (last_or x xs)

last_or_more : (k : ℕ) (xs : List ℕ) (h : ℕ) → last_or k (xs ++ h ∷ []) ≡ h
last_or_more k [] h = refl
last_or_more k (x ∷ xs) h = last_or_more x xs h

pub last_more : (xs : List ℕ) (h : ℕ) → last_of (xs ++ h ∷ []) ≡ Some h
last_more [] h = refl
last_more (x ∷ xs) h = ap (λ (n : ℕ). Some n) (last_or_more x xs h)

one_or_two : (b : Bool) (k h : ℕ) → length (cond b (k ∷ []) (k ∷ h ∷ [])) ≡ 1 + cond b 0 1
one_or_two true k h = refl
one_or_two false k h = refl

from_more : (b : Bool) (k x : ℕ) (xs : List ℕ) (h : ℕ) → nat_eq x k ≡ b
    → length (dedup_from nat_eq k (xs ++ h ∷ [])) ≡ length (dedup_from nat_eq k xs) + cond (nat_eq h (last_or k xs)) 0 1
    → length (dedup_from nat_eq x (xs ++ h ∷ [])) ≡ length (dedup_from nat_eq x xs) + cond (nat_eq h (last_or x xs)) 0 1
    → length (cond b (dedup_from nat_eq k (xs ++ h ∷ [])) (k ∷ dedup_from nat_eq x (xs ++ h ∷ []))) ≡ length (cond b (dedup_from nat_eq k xs) (k ∷ dedup_from nat_eq x xs)) + cond (nat_eq h (last_or x xs)) 0 1
from_more true k x xs h e same other = same ∙ ap (λ (z : ℕ). length (dedup_from nat_eq k xs) + cond (nat_eq h (last_or z xs)) 0 1) (sym (eqb-true x k e))
from_more false k x xs h e same other = omega (arith, other)

dedup_from_more : (k : ℕ) (xs : List ℕ) (h : ℕ) → length (dedup_from nat_eq k (xs ++ h ∷ [])) ≡ length (dedup_from nat_eq k xs) + cond (nat_eq h (last_or k xs)) 0 1
dedup_from_more k [] h = one_or_two (nat_eq h k) k h
dedup_from_more k (x ∷ xs) h = from_more (nat_eq x k) k x xs h refl (dedup_from_more k xs h) (dedup_from_more x xs h)

dedup_more : (xs : List ℕ) (h : ℕ) → length (dedup nat_eq (xs ++ h ∷ [])) ≡ length (dedup nat_eq xs) + cond (is_last (last_of xs) h) 0 1
dedup_more [] h = refl
dedup_more (x ∷ xs) h = dedup_from_more x xs h

abbrev one_unless : Bool → ℕ
one_unless b = cond b 0 1

flipped : (b : Bool) → one_unless b ≡ cond (not b) 1 0
flipped true = refl
flipped false = refl

blocks_more : (guarded : Bool) (xs : List ℕ) (h : ℕ) (number : Option ℕ) → number ≡ last_of xs
    → length (dedup nat_eq (xs ++ cond guarded (h ∷ []) [])) ≡ length (dedup nat_eq xs) + cond (guarded && not (is_last number h)) 1 0
blocks_more false xs h number same =
    let all : length (dedup nat_eq (xs ++ [])) ≡ length (dedup nat_eq xs) = ap (λ (l : List ℕ). length (dedup nat_eq l)) (append-nil xs) in
    omega (arith, all)
blocks_more true xs h number same =
    dedup_more xs h ∙ ap (λ (o : Option ℕ). length (dedup nat_eq xs) + cond (is_last o h) 0 1) (sym same) ∙ ap (λ (n : ℕ). length (dedup nat_eq xs) + n) (flipped (is_last number h))

one_if : {X : Type 0} (b : Bool) (x : X) → length (cond b (x ∷ []) []) ≡ cond b 1 0
one_if true x = refl
one_if false x = refl

filter_more : {X : Type 0} (test : X → Bool) (xs : List X) (x : X) → length (filter test (xs ++ x ∷ [])) ≡ length (filter test xs) + cond (test x) 1 0
filter_more test xs x =
    ap length (filter-append test xs (x ∷ [])) ∙ length-append (filter test xs) (filter test (x ∷ [])) ∙ ap (λ (n : ℕ). length (filter test xs) + n) (one_if (test x) x)

asked_more : (existing : Bool) (test : PathAt → Bool) (ws : List PathAt) (p : PathAt)
    → cond existing (length (filter test (ws ++ p ∷ []))) 0 ≡ cond existing (length (filter test ws)) 0 + cond (existing && test p) 1 0
asked_more false test ws p = refl
asked_more true test ws p = filter_more test ws p

-- ---- one path more

pub wanted_yes : (rule : Rule) (given : List PathAt) (p : PathAt) → rule.wanted p.text ≡ true → wanted_of rule (given ++ p ∷ []) ≡ wanted_of rule given ++ p ∷ []
wanted_yes rule given p want = filter-append (is_wanted rule) given (p ∷ []) ∙ ap (λ (b : Bool). wanted_of rule given ++ cond b (p ∷ []) []) want

pub wanted_no : (rule : Rule) (given : List PathAt) (p : PathAt) → rule.wanted p.text ≡ false → wanted_of rule (given ++ p ∷ []) ≡ wanted_of rule given
wanted_no rule given p lack = filter-append (is_wanted rule) given (p ∷ []) ∙ ap (λ (b : Bool). wanted_of rule given ++ cond b (p ∷ []) []) lack ∙ append-nil (wanted_of rule given)

map_if : (guarded : Bool) (p : PathAt) → map block_of (cond guarded (p ∷ []) []) ≡ cond guarded (block_of p ∷ []) []
map_if true p = refl
map_if false p = refl

blocks_yes : (rule : Rule) (given : List PathAt) (p : PathAt) → rule.wanted p.text ≡ true → guarded_blocks rule (given ++ p ∷ []) ≡ guarded_blocks rule given ++ cond (is_guarded rule.gated p) (block_of p ∷ []) []
blocks_yes rule given p want =
    ap (λ (ws : List PathAt). map block_of (filter (is_guarded rule.gated) ws)) (wanted_yes rule given p want)
    ∙ ap (map block_of) (filter-append (is_guarded rule.gated) (wanted_of rule given) (p ∷ []))
    ∙ map-append block_of (filter (is_guarded rule.gated) (wanted_of rule given)) (filter (is_guarded rule.gated) (p ∷ []))
    ∙ ap (λ (l : List ℕ). guarded_blocks rule given ++ l) (map_if (is_guarded rule.gated p) p)

blocks_no : (rule : Rule) (given : List PathAt) (p : PathAt) → rule.wanted p.text ≡ false → guarded_blocks rule (given ++ p ∷ []) ≡ guarded_blocks rule given
blocks_no rule given p lack = ap (λ (ws : List PathAt). map block_of (filter (is_guarded rule.gated) ws)) (wanted_no rule given p lack)

sums : (a b a' b' x y : ℕ) → a' ≡ a + x → b' ≡ b + y → a' + b' ≡ (a + b) + (x + y)
sums a b a' b' x y e h = omega (arith, e, h)

pub due_yes : (rule : Rule) (given : List PathAt) (p : PathAt) (block : Block) → rule.wanted p.text ≡ true → block.number ≡ last_of (guarded_blocks rule given)
    → due rule (given ++ p ∷ []) ≡ due rule given + calls_due rule block p
due_yes rule given p block want same =
    let blocks : blocks_asked rule (given ++ p ∷ []) ≡ blocks_asked rule given + block_calls rule.gated block p =
    ap (λ (hs : List ℕ). length (dedup nat_eq hs)) (blocks_yes rule given p want) ∙ blocks_more (is_guarded rule.gated p) (guarded_blocks rule given) (block_of p) block.number same in
    let paths : paths_asked rule (given ++ p ∷ []) ≡ paths_asked rule given + path_calls rule p =
    ap (λ (ws : List PathAt). cond rule.existing (length (filter (is_visible rule) ws)) 0) (wanted_yes rule given p want) ∙ asked_more rule.existing (is_visible rule) (wanted_of rule given) p in
    sums _ _ _ _ _ _ blocks paths

pub due_no : (rule : Rule) (given : List PathAt) (p : PathAt) → rule.wanted p.text ≡ false → due rule (given ++ p ∷ []) ≡ due rule given
due_no rule given p lack =
    ap (λ (ws : List PathAt). length (dedup nat_eq (map block_of (filter (is_guarded rule.gated) ws))) + cond rule.existing (length (filter (is_visible rule) ws)) 0) (wanted_no rule given p lack)

pub passing_yes : (rule : Rule) (given : List PathAt) (p : PathAt) → rule.wanted p.text ≡ true → passing rule (given ++ p ∷ []) ≡ passing rule given ++ cond (is_shown rule p) (p ∷ []) []
passing_yes rule given p want = filter-append (passes rule) given (p ∷ []) ∙ ap (λ (b : Bool). passing rule given ++ cond (b && is_shown rule p) (p ∷ []) []) want

pub passing_no : (rule : Rule) (given : List PathAt) (p : PathAt) → rule.wanted p.text ≡ false → passing rule (given ++ p ∷ []) ≡ passing rule given
passing_no rule given p lack = filter-append (passes rule) given (p ∷ []) ∙ ap (λ (b : Bool). passing rule given ++ cond (b && is_shown rule p) (p ∷ []) []) lack ∙ append-nil (passing rule given)

line_if : (rule : Rule) (b : Bool) (p : PathAt) → lines rule (cond b (p ∷ []) []) ≡ cond b (line_of rule p) []
line_if rule true p = append-nil (line_of rule p)
line_if rule false p = refl

lines_yes : (rule : Rule) (given : List PathAt) (p : PathAt) → rule.wanted p.text ≡ true → lines rule (passing rule (given ++ p ∷ [])) ≡ lines rule (passing rule given) ++ cond (is_shown rule p) (line_of rule p) []
lines_yes rule given p want =
    ap (lines rule) (passing_yes rule given p want) ∙ flat_map-append (line_of rule) (passing rule given) (cond (is_shown rule p) (p ∷ []) [])
    ∙ ap (λ (l : List ℕ). lines rule (passing rule given) ++ l) (line_if rule (is_shown rule p) p)

count_yes : (rule : Rule) (given : List PathAt) (p : PathAt) → rule.wanted p.text ≡ true → length (passing rule (given ++ p ∷ [])) ≡ length (passing rule given) + cond (is_shown rule p) 1 0
count_yes rule given p want =
    ap length (passing_yes rule given p want) ∙ length-append (passing rule given) (cond (is_shown rule p) (p ∷ []) []) ∙ ap (λ (n : ℕ). length (passing rule given) + n) (one_if (is_shown rule p) p)

pub steps_one : (bound : List ℕ → ℕ) (given : List PathAt) (p : PathAt) → steps_over bound (given ++ p ∷ []) ≡ steps_over bound given + bound p.text
steps_one bound given p = sum_by_push (λ (q : PathAt). bound q.text) given p

-- ---- what was done so far

-- what was printed, counted and asked over the paths that were gone through
pub record Went (rule : Rule) (bound : List ℕ → ℕ) (old new : Stand) (steps steps' : ℕ) (given : List PathAt) : Type 0 where
  pub prints : Appends old.taken new.taken (lines rule (passing rule given))
  pub counts : new.matched ≡ old.matched + length (passing rule given)
  pub asks : new.asks ≡ raised old.asks (due rule given)
  pub within : steps' ≤ steps + steps_over bound given

nothing : (e : Bool) → 0 + cond e 0 0 ≡ 0
nothing true = refl
nothing false = refl

pub went_none : (rule : Rule) (bound : List ℕ → ℕ) (old : Stand) (steps : ℕ) → Went rule bound old old steps steps []
went_none rule bound old steps = record {
  prints = Appends-nil old.taken;
  counts = omega arith;
  asks = sym (ap (raised old.asks) (nothing rule.existing) ∙ raised_none old.asks);
  within = omega arith;
}

module _ (rule : Rule) (bound : List ℕ → ℕ) (old new : Stand) (s s' s'' : ℕ) (given : List PathAt) (p : PathAt) (before : Went rule bound old new s s' given) (cost : s'' ≤ s' + bound p.text) where
  pub went_yes : (block block' : Block) (new' : Stand) → rule.wanted p.text ≡ true → block.number ≡ last_of (guarded_blocks rule given)
      → Through rule block block' p new new' → Went rule bound old new' s s'' (given ++ p ∷ [])
  went_yes block block' new' want same through = record {
    prints = subst (Appends old.taken new'.taken) (sym (lines_yes rule given p want)) (Appends-trans old.taken new.taken new'.taken _ _ before.prints through.prints);
    counts = through.counts ∙ ap (λ (n : ℕ). n + cond (is_shown rule p) 1 0) before.counts ∙ omega (arith, count_yes rule given p want);
    asks = through.asks ∙ ap (λ (n : ℕ). raised n (calls_due rule block p)) before.asks ∙ raised_more old.asks (due rule given) (calls_due rule block p) ∙ ap (raised old.asks) (sym (due_yes rule given p block want same));
    within = omega (arith, before.within, cost, steps_one bound given p);
  }

  pub went_no : rule.wanted p.text ≡ false → Went rule bound old new s s'' (given ++ p ∷ [])
  went_no lack = record {
    prints = subst (λ (ps : List PathAt). Appends old.taken new.taken (lines rule ps)) (sym (passing_no rule given p lack)) before.prints;
    counts = before.counts ∙ ap (λ (ps : List PathAt). old.matched + length ps) (sym (passing_no rule given p lack));
    asks = before.asks ∙ ap (raised old.asks) (sym (due_no rule given p lack));
    within = omega (arith, before.within, cost, steps_one bound given p);
  }

-- ---- what is known of the block that the gate was asked for last

-- Its number is that of the last wanted path for which the gate had to be asked, and its answer is that of all paths of the
-- block that come yet.
pub record Holds (rule : Rule) (paths given : List PathAt) (block : Block) : Type 0 where
  pub last : block.number ≡ last_of (guarded_blocks rule given)
  pub ahead : (q : PathAt) (between behind : List PathAt) → paths ≡ given ++ (between ++ q ∷ behind) → Remembers rule.gated rule.tests block q

none_last : (number : Option ℕ) (h : ℕ) → number ≡ None → is_last number h ≡ true → ⊥
none_last None h e is = absurd cc
none_last (Some n) h e is = absurd cc

pub holds_none : (rule : Rule) (paths : List PathAt) (block : Block) → block.number ≡ None → Holds rule paths [] block
holds_none rule paths block none = record { last = none; ahead = λ q between behind e guarded is. absurd (none_last block.number (block_of q) none is) }

last_if : (guarded : Bool) (xs : List ℕ) (h : ℕ) (shows : Bool) (block block' : Block) → block.number ≡ last_of xs → MatchBool guarded ((block'.number ≡ Some h) × (block'.shown ≡ shows)) (block' ≡ block)
    → block'.number ≡ last_of (xs ++ cond guarded (h ∷ []) [])
last_if true xs h shows block block' before knows = knows.0 ∙ sym (last_more xs h)
last_if false xs h shows block block' before knows = ap (λ (b : Block). b.number) knows ∙ before ∙ ap last_of (sym (append-nil xs))

and_left : (a b : Bool) → (a && b) ≡ true → a ≡ true
and_left true b e = refl
and_left false b e = absurd cc

-- what is kept of the block of a later path
kept_of : (guarded : Bool) (tests : Tests) (block block' : Block) (p q : PathAt) → MatchBool guarded ((block'.number ≡ Some (block_of p)) × (block'.shown ≡ tests.shows (dir_of p))) (block' ≡ block)
    → (is_last block.number (block_of q) ≡ true → block.shown ≡ tests.shows (dir_of q)) → (block_of p ≡ block_of q → dir_of p ≡ dir_of q)
    → is_last block'.number (block_of q) ≡ true → block'.shown ≡ tests.shows (dir_of q)
kept_of true tests block block' p q knows before one is =
    let same : block_of q ≡ block_of p = eqb-true (block_of q) (block_of p) (ap (λ (o : Option ℕ). is_last o (block_of q)) (sym knows.0) ∙ is) in
    knows.1 ∙ ap tests.shows (one (sym same))
kept_of false tests block block' p q knows before one is = subst (λ (b : Block). is_last b.number (block_of q) ≡ true → b.shown ≡ tests.shows (dir_of q)) (sym knows) before is

module _ (rule : Rule) (paths given : List PathAt) (block : Block) (p : PathAt) (before : Holds rule paths given block) where
  pub remembers_next : (later : List PathAt) → paths ≡ (given ++ p ∷ []) ++ later → Remembers rule.gated rule.tests block p
  remembers_next later all = before.ahead p [] later (all ∙ append_assoc given (p ∷ []) later)

  pub holds_yes : (block' : Block) → rule.wanted p.text ≡ true → (rule.gated ≡ true → OneDirectory paths) → Knows rule.gated rule.tests block block' p → Holds rule paths (given ++ p ∷ []) block'
  holds_yes block' want one knows = record {
    last = last_if (is_guarded rule.gated p) (guarded_blocks rule given) (block_of p) (rule.tests.shows (dir_of p)) block block' before.last knows ∙ sym (ap last_of (blocks_yes rule given p want));
    ahead = λ q between behind all guarded.
        let there : paths ≡ given ++ (p ∷ (between ++ q ∷ behind)) = all ∙ append_assoc given (p ∷ []) (between ++ q ∷ behind) in
        kept_of (is_guarded rule.gated p) rule.tests block block' p q knows (before.ahead q (p ∷ between) behind there guarded)
        (one (and_left rule.gated (not (q.dir_len == 0)) guarded) p q given between behind there);
  }

  pub holds_no : rule.wanted p.text ≡ false → Holds rule paths (given ++ p ∷ []) block
  holds_no lack = record {
    last = before.last ∙ sym (ap last_of (blocks_no rule given p lack));
    ahead = λ q between behind all. before.ahead q (p ∷ between) behind (all ∙ append_assoc given (p ∷ []) (between ++ q ∷ behind));
  }
