-- The format of a file, told by the bytes that lie ahead of a feed.
use Rattle.std.proofs.Common.{◌≡◌, ℕ, ◌+◌, ◌-◌, ◌<◌, ◌≤◌, Bool, true, false, List, [], ◌++◌, length, take, Option, Some, None, Err, refl, sym, ap, ◌∙◌, inl, inr, append-nil, length-append, length-take, arith}
use Rattle.std.specs.Prelude.{nat_eq, unwrap_or, if◌then◌else◌}
use Rattle.std.specs.List.{starts_with}
use Rattle.std.proofs.lemmas.Bool.{cases_lt}
use Rattle.std.proofs.lemmas.List.{take-append-le, take-take, take_all}
use Rattle.byte_feed.specs.declared.damage.DbFault.TheVariants as faults
use Rattle.byte_feed.specs.Front.{Window, limit}
use Rattle.byte_feed.specs.Feed.{FeedState, file, window, so_far, Took, TookKnown, IsAllAhead}
use Rattle.byte_feed.specs.Paths.{no_paths}
use Rattle.byte_feed.specs.Calls.{MovedKnown, EndsKnown, NoPreambleKnown}
use Rattle.byte_feed.proofs.TakenOff.{file_open, file_shut, window_took, more_took, so_far_took}
use Rattle.byte_feed.proofs.Wants.{all_ahead}
use Rattle.mlocate_db.specs.Items.{magic as mlocate_magic}
use Rattle.locate02_db.specs.Items.{magic as locate02_magic}
use Rattle.bigram_db.specs.Pairs.{is_bigram}
use Rattle.any_db.specs.declared.format.DatabaseFormat.{DatabaseFormat}
use Rattle.any_db.specs.declared.format.DatabaseFormat.TheVariants.{Mlocate, Locate02, Bigram}
use Rattle.any_db.specs.Reader.{ReadAsKnown}
use Rattle.any_db.specs.Formats.{format_of, read_as, to_come_by, to_come_in, preamble_in, preamble_by}
use Rattle.any_db.proofs.FewBytes.{few_to_come, few_first}

-- ---- the first ten bytes

starts_same : (xs ys magic : List ℕ) → length magic ≤ 10 → take 10 xs ≡ take 10 ys → starts_with nat_eq xs magic ≡ starts_with nat_eq ys magic
starts_same xs ys magic le e =
    let first : (zs : List ℕ) → take (length magic) zs ≡ take (length magic) (take 10 zs) = λ zs. sym (take-take (length magic) 10 zs le) in
    rw (first xs ∙ ap (take (length magic)) e ∙ sym (first ys)) refl

by_magic : Bool → Bool → DatabaseFormat
by_magic a b = if a then Mlocate else if b then Locate02 else Bigram

-- The test for a table is not asked for to read.
read_by_magic : (a b c : Bool) → unwrap_or (if a then Some Mlocate else if b then Some Locate02 else if c then Some Bigram else None) Bigram ≡ by_magic a b
unfolding by_magic
read_by_magic true b c = refl
read_by_magic false true c = refl
read_by_magic false false true = refl
read_by_magic false false false = refl

-- the first bytes alone tell the format that a file is read in
pub read_first : (bytes : List ℕ) → read_as bytes ≡ (if starts_with nat_eq bytes mlocate_magic then Mlocate else if starts_with nat_eq bytes locate02_magic then Locate02 else Bigram)
unfolding format_of by_magic
read_first bytes = read_by_magic (starts_with nat_eq bytes mlocate_magic) (starts_with nat_eq bytes locate02_magic) (is_bigram bytes)

pub read_mlocate : (bytes : List ℕ) → starts_with nat_eq bytes mlocate_magic ≡ true → Mlocate ≡ read_as bytes
read_mlocate bytes a = sym (read_first bytes ∙ rw a refl)

pub read_locate02 : (bytes : List ℕ) → starts_with nat_eq bytes mlocate_magic ≡ false → starts_with nat_eq bytes locate02_magic ≡ true → Locate02 ≡ read_as bytes
read_locate02 bytes a b = sym (read_first bytes ∙ rw (a, b) refl)

pub read_bigram : (bytes : List ℕ) → starts_with nat_eq bytes mlocate_magic ≡ false → starts_with nat_eq bytes locate02_magic ≡ false → Bigram ≡ read_as bytes
read_bigram bytes a b = sym (read_first bytes ∙ rw (a, b) refl)

-- files that begin with the same ten bytes are read in the same format
pub same_format : (xs ys : List ℕ) → take 10 xs ≡ take 10 ys → read_as xs ≡ read_as ys
same_format xs ys e = read_first xs ∙ (λ i. if starts_same xs ys mlocate_magic (omega arith) e i then Mlocate else if starts_same xs ys locate02_magic (omega arith) e i then Locate02 else Bigram) ∙ sym (read_first ys)

-- ---- what lies ahead of a feed

-- So many bytes lie ahead: ten, or all that may be read.
pub record LooksTen (f : FeedState) (n : ℕ) : Type 0 where
  pub offset : f.offset ≡ 0
  pub held : n ≤ length f.held
  pub most : n ≤ 10
  pub all : n < 10 → IsAllAhead f n
  pub bound : f.offset + length f.held ≤ limit

held_before : (f : FeedState) (l : List ℕ) (e : Bool) → f.ended ≡ e → (P : Type 0) → ((more : List ℕ) → file f l ≡ f.held ++ more → P) → P
held_before f l false is P go = go l (file_open f l is)
held_before f l true is P go = go [] (file_shut f l is ∙ sym (append-nil f.held))

ten_held : (f : FeedState) (n : ℕ) (more : List ℕ) → 10 ≤ n → LooksTen f n → take 10 (f.held ++ more) ≡ take 10 (take n f.held)
ten_held f n more ten h = take-append-le 10 f.held more (omega (arith, ten, h.held)) ∙ sym (take-take 10 n f.held ten)

-- the file is read in the format that they tell
whole_told : (f : FeedState) (l : List ℕ) (n : ℕ) → LooksTen f n → read_as (window f l).bytes ≡ read_as (take n f.held)
whole_told f l n h =
    elim (cases_lt n 10) [
      | inl few ↦
          let every = h.all few in
          ap read_as ((all_ahead f l n f.ended refl every h.bound).0 ∙ sym (take_all n f.held (omega (arith, every.held))))
      | inr ten ↦
          held_before f l f.ended refl _ (λ more is.
          same_format (window f l).bytes (take n f.held) (take-take 10 (limit - f.offset) (file f l) (omega (arith, h.offset)) ∙ ap (take 10) is ∙ ten_held f n more ten h))
    ]

open_shut : false ≡ true → ⊥
open_shut e = absurd cc

-- and so is each part of it that the source had given, if it goes on
part_told : (f : FeedState) (l : List ℕ) (n m : ℕ) → LooksTen f n → f.ended ≡ false → m ≤ length l → read_as (so_far f l m).bytes ≡ read_as (take n f.held)
part_told f l n m h going le =
    elim (cases_lt n 10) [
      | inl few ↦ absurd (omega (arith, few, h.offset, (h.all few).last going))
      | inr ten ↦
          let is = file_open f l going in
          let len : length (file f l) ≡ length f.held + length l = ap length is ∙ length-append f.held l in
          same_format (so_far f l m).bytes (take n f.held)
          (take-take 10 (limit - f.offset) (take (length (file f l) - m) (file f l)) (omega (arith, h.offset))
          ∙ take-take 10 (length (file f l) - m) (file f l) (omega (arith, len, le, ten, h.held))
          ∙ ap (take 10) is ∙ ten_held f n l ten h)
    ]

-- ---- what the file gives is what it gives in that format

window_same : (f f' : FeedState) (a b : List ℕ) → Took f a f' b [] → window f a ≡ window f' b
window_same f f' a b t = λ i. record { bytes = window_took f f' a b [] t i; more = (sym (more_took f f' a b [] t)) i }

part_same : (f f' : FeedState) (a b : List ℕ) (n : ℕ) → Took f a f' b [] → f'.ended ≡ false → n ≤ length b → so_far f a n ≡ so_far f' b n
part_same f f' a b n t going le = λ i. record { bytes = so_far_took f f' a b [] n t going le i; more = true }

-- the format that the file is read in
pub format_told : (f f' : FeedState) (l l' : Option (List ℕ)) (n : ℕ) → TookKnown f l f' l' [] → LooksTen f' n → ReadAsKnown f l (read_as (take n f'.held))
format_told f f' None l' n t h = tt
format_told f f' (Some a) None n t h = absurd t
format_told f f' (Some a) (Some b) n t h = sym (ap (λ (w : Window). read_as w.bytes) (window_same f f' a b t) ∙ whole_told f' b n h)

module _ {T : Type 0} (any : Window → T) (by : DatabaseFormat → Window → T) (is : (w : Window) → any w ≡ by (read_as w.bytes) w) where
  seen_in : (d : DatabaseFormat) (v w : Window) → v ≡ w → read_as w.bytes ≡ d → any v ≡ by d w
  seen_in d v w same told = ap any same ∙ is w ∙ ap (λ (e : DatabaseFormat). by e w) told

  moved : (f f' : FeedState) (l l' : Option (List ℕ)) (n : ℕ) → TookKnown f l f' l' [] → LooksTen f' n → MovedKnown any (by (read_as (take n f'.held))) (λ t. t) f l f' l'
  moved f f' None l' n t h = tt
  moved f f' (Some a) None n t h = absurd t
  moved f f' (Some a) (Some b) n t h = record {
    whole = seen_in (read_as (take n f'.held)) (window f a) (window f' b) (window_same f f' a b t) (whole_told f' b n h);
    goes_on = t.goes_on;
    parts = λ going m le. seen_in (read_as (take n f'.held)) (so_far f a m) (so_far f' b m) (part_same f f' a b m t going le) (part_told f' b n m h going le);
  }

to_come_is : (w : Window) → to_come_in w ≡ to_come_by (read_as w.bytes) w
unfolding to_come_in
to_come_is w = refl

preamble_is : (w : Window) → preamble_in w ≡ preamble_by (read_as w.bytes) w
unfolding preamble_in
preamble_is w = refl

pub to_come_told : (f f' : FeedState) (l l' : Option (List ℕ)) (n : ℕ) → TookKnown f l f' l' [] → LooksTen f' n → MovedKnown to_come_in (to_come_by (read_as (take n f'.held))) (λ t. t) f l f' l'
to_come_told f f' l l' n t h = moved to_come_in to_come_by to_come_is f f' l l' n t h

pub preamble_told : (f f' : FeedState) (l l' : Option (List ℕ)) (n : ℕ) → TookKnown f l f' l' [] → LooksTen f' n → MovedKnown preamble_in (preamble_by (read_as (take n f'.held))) (λ t. t) f l f' l'
preamble_told f f' l l' n t h = moved preamble_in preamble_by preamble_is f f' l l' n t h

-- ---- a source that failed among the first ten bytes

few_so_far : (f f' : FeedState) (a b : List ℕ) → Took f a f' b [] → f'.ended ≡ false → length f'.held < 10 → length (so_far f a (length b)).bytes < 10
few_so_far f f' a b t going few =
    let part : List ℕ = take (length (file f a) - length b) (file f a) in
    omega (arith, few, length-take (limit - f.offset) part, length-take (length (file f a) - length b) (file f a), ap length t.bytes, ap length (file_open f' b going), length-append f'.held b)

pub nothing_given : (f f' : FeedState) (l l' : Option (List ℕ)) → TookKnown f l f' l' [] → f'.ended ≡ false → length f'.held < 10 → EndsKnown to_come_in (no_paths 0 0) f l l' (Err faults.ReadFault)
nothing_given f f' None l' t going few = tt
nothing_given f f' (Some a) None t going few = absurd t
nothing_given f f' (Some a) (Some b) t going few =
    let on = t.goes_on going in
    let w = so_far f a (length b) in
    few_to_come (read_as w.bytes) w (few_so_far f f' a b t going few) _ (λ ending none.
    record { goes_on = on.0; fewer = on.1; ending = ending; nothing = to_come_is w ∙ none })

pub no_preamble_told : (f f' : FeedState) (l l' : Option (List ℕ)) → TookKnown f l f' l' [] → f'.ended ≡ false → length f'.held < 10 → NoPreambleKnown preamble_in f l l' faults.ReadFault
no_preamble_told f f' None l' t going few = tt
no_preamble_told f f' (Some a) None t going few = absurd t
no_preamble_told f f' (Some a) (Some b) t going few =
    let w = so_far f a (length b) in
    preamble_is w ∙ few_first (read_as w.bytes) w (few_so_far f f' a b t going few)
