-- What a table of sets tells of a text.
use Rattle.std.proofs.Common.{◌≡◌, ◌⊎◌, ◌↔◌, ℕ, zero, suc, ◌+◌, ◌-◌, ◌<◌, ◌≤◌, ◌*◌, ◌%◌, ◌^◌, ◌==◌, ◌||◌, w64, Bool, true, false, not, List, [], ◌∷◌, ◌++◌, length, get_or, slice_get, slice_index, Contains, Option, Some, None, refl, sym, ap, ◌∙◌, subst, inl, inr, ⊎_elim, arith}
use Rattle.std.specs.Prelude.{⊤, is_some}
use Rattle.std.specs.Int.Bits.{bit_or}
use Rattle.std.proofs.lemmas.Bool.{false≢true, eq-eqb, ne_eqb, eqb-true, cases_eq, or_right}
use Rattle.std.proofs.lemmas.Option.{slice_get_within, slice_get-get_or}
use Rattle.std.proofs.lemmas.Nat.Bits.{bit_at-zero, bit_at_set_same, bit_at_set_other}
use Rattle.byte_class.proofs.Members.{members_pass}
use Rattle.posix_regex.specs.declared.leaving.Leaving.TheVariants.{Nothing}
use Rattle.posix_regex.specs.declared.row.Row.{Row}
use Rattle.posix_regex.specs.Program.{Item, Takes, AtStart, AtEnd, Fork, Back, Skip}
use Rattle.posix_regex.specs.Moves.{Leads, Reached, ReachesEnd, Silent}
use Rattle.posix_regex.specs.Table.{has_state, states_of, Begins, Passes, Stepped, Follows, Closes, Ends, Entry, IsRow, IsMade, Grown, AreRows, IsTable}
use Rattle.posix_regex.specs.Leaving.{leaves}
use Rattle.posix_regex.proofs.Leavings.{stays}
use Rattle.posix_regex.proofs.Searching.{Waiting, Spread, waiting_next, waiting_done, still_reached, next_reached}
use Rattle.posix_regex.proofs.Starts.{begun_anywhere}

or_none : (b : Bool) → b ≡ (b || false)
or_none true = refl
or_none false = refl

pub has-with : (set state other : ℕ) → state < 64 → has_state (bit_or set (1 * 2 ^ state % 18446744073709551616)) other ≡ (has_state set other || other == state)
unfolding has_state
has-with set state other fits =
    ⊎_elim
    (λ same. rw same (rw (bit_at_set_same w64 set state fits, eq-eqb state state refl) (sym (or_right _ true refl))))
    (λ ne. rw (bit_at_set_other w64 set state fits other ne, ne_eqb other state ne) (or_none _))
    (cases_eq other state)

pub has-none : (s : ℕ) → has_state 0 s ≡ false
unfolding has_state
has-none s = ap (λ bit. bit == 1) (bit_at-zero s)

-- two places at which moves are the same
pub record Alike (text : List ℕ) (at : ℕ) (other : List ℕ) (to : ℕ) : Type 0 where
  pub first : at ≡ 0 → to ≡ 0
  pub last : at ≡ length text → to ≡ length other
  pub byte : at < length text → (to < length other) × (slice_index other to ≡ slice_index text at)

-- a move stays at its place or goes to the next
stays_or_goes : (text : List ℕ) (o : Option Item) (s i t j : ℕ) → Leads text o s i t j → (j ≡ i) ⊎ (j ≡ i + 1)
stays_or_goes text None s i t j h = absurd h
stays_or_goes text (Some (Takes bytes)) s i t j h = inr h.1
stays_or_goes text (Some AtStart) s i t j h = inl h.1
stays_or_goes text (Some AtEnd) s i t j h = inl h.1
stays_or_goes text (Some (Fork n)) s i t j h = inl h.0
stays_or_goes text (Some (Back n)) s i t j h = inl h.0
stays_or_goes text (Some (Skip n)) s i t j h = inl h.0

module _ (text : List ℕ) (at : ℕ) (other : List ℕ) (to : ℕ) (alike : Alike text at other to) where
  lead_still : (o : Option Item) (s u : ℕ) → Leads text o s at u at → Leads other o s to u to
  lead_still None s u h = absurd h
  lead_still (Some (Takes bytes)) s u h = absurd (omega (arith, h.1))
  lead_still (Some AtStart) s u h = (h.0, refl, alike.first h.2)
  lead_still (Some AtEnd) s u h = (h.0, refl, alike.last h.2)
  lead_still (Some (Fork n)) s u h = (refl, h.1)
  lead_still (Some (Back n)) s u h = (refl, h.1)
  lead_still (Some (Skip n)) s u h = (refl, h.1)

  lead_further : (o : Option Item) (s u : ℕ) → Leads text o s at u (at + 1) → Leads other o s to u (to + 1)
  lead_further None s u h = absurd h
  lead_further (Some (Takes bytes)) s u h = (h.0, refl, (alike.byte h.2).0, subst (Contains bytes) (sym (alike.byte h.2).1) h.3)
  lead_further (Some AtStart) s u h = absurd (omega (arith, h.1))
  lead_further (Some AtEnd) s u h = absurd (omega (arith, h.1))
  lead_further (Some (Fork n)) s u h = absurd (omega (arith, h.0))
  lead_further (Some (Back n)) s u h = absurd (omega (arith, h.0))
  lead_further (Some (Skip n)) s u h = absurd (omega (arith, h.0))

  silent_alike : (items : List Item) (from : List ℕ) (n s : ℕ) → Silent n items text from at s → Silent n items other from to s
  silent_alike items from zero s h = h
  silent_alike items from (suc n) s h = (h.0, silent_alike items from n h.0 h.1, lead_still (slice_get items h.0) h.0 s h.2)

module _ (items : List Item) (text : List ℕ) (at : ℕ) (other : List ℕ) (to : ℕ) (alike : Alike text at other to) (back : Alike other to text at) where
  passes_alike : (from all next : List ℕ) → Passes items text from all next at → Passes items other from all next to
  passes_alike from all next p = record {
    kept = p.kept;
    sound = λ s h. let q = p.sound s h in (q.0, silent_alike text at other to alike items from q.0 s q.1);
    next_sound = λ s h. let q = p.next_sound s h in (q.0, q.1, lead_further text at other to alike (slice_get items q.0) q.0 s q.2);
    closed = λ s u j h lead le.
        ⊎_elim
        (λ (e : j ≡ to).
        let moved : Leads text (slice_get items s) s at u at = lead_still other to text at back (slice_get items s) s u (subst (λ x. Leads other (slice_get items s) s to u x) e lead) in
        ⊎_elim (λ a. inl (e, a.1)) (λ a. absurd (omega (arith, a.0))) (p.closed s u at h moved le))
        (λ (e : j ≡ to + 1).
        let moved : Leads text (slice_get items s) s at u (at + 1) = lead_further other to text at back (slice_get items s) s u (subst (λ x. Leads other (slice_get items s) s to u x) e lead) in
        ⊎_elim (λ a. absurd (omega (arith, a.0))) (λ a. inr (e, a.1)) (p.closed s u (at + 1) h moved le))
        (stays_or_goes other (slice_get items s) s to u j lead);
    unfinished = p.unfinished;
  }

  pub stepped_alike : (set : ℕ) (next : Option ℕ) → Stepped items text at set next → Stepped items other to set next
  stepped_alike set None h = (h.0, h.1, (h.2.0, silent_alike text at other to alike items h.0 h.2.0 (length items) h.2.1))
  stepped_alike set (Some next) h = (h.0, h.1, h.2, passes_alike h.0 h.1 (states_of next) h.3)

-- a place has this byte, and is the first or isn't
abbrev pub Inner : Bool → ℕ → List ℕ → ℕ → Type 0
Inner first byte text at = (at < length text) × (slice_index text at ≡ byte) × ((first ≡ true) ↔ (at ≡ 0))

inner_alike : (first : Bool) (byte : ℕ) (text : List ℕ) (at : ℕ) (other : List ℕ) (to : ℕ) → Inner first byte text at → Inner first byte other to → Alike text at other to
inner_alike first byte text at other to here there = record {
  first = λ e. there.2.0 (here.2.1 e);
  last = λ e. absurd (omega (arith, e, here.0));
  byte = λ within. (there.0, there.1 ∙ sym here.1);
}

last_alike : (first : Bool) (text other : List ℕ) → ((first ≡ true) ↔ (length text ≡ 0)) → ((first ≡ true) ↔ (length other ≡ 0)) → Alike text (length text) other (length other)
last_alike first text other here there = record {
  first = λ e. there.0 (here.1 e);
  last = λ e. refl;
  byte = λ within. absurd (omega (arith, within));
}

-- what is so at one place is so at each that is alike
pub follows_alike : (items : List Item) (first : Bool) (byte : ℕ) (text : List ℕ) (at set : ℕ) (next : Option ℕ) → at < length text → slice_index text at ≡ byte → ((first ≡ true) ↔ (at ≡ 0)) → Stepped items text at set next → Follows items first byte set next
follows_alike items first byte text at set next within is kind h = λ other to inside same also.
    stepped_alike items text at other to (inner_alike first byte text at other to (within, is, kind) (inside, same, also)) (inner_alike first byte other to text at (inside, same, also) (within, is, kind)) set next h

closes_of : (items : List Item) (text : List ℕ) (set : ℕ) (next : Option ℕ) → Stepped items text (length text) set next → (end : Bool) → is_some next ≡ not end → Closes items text set end
closes_of items text set None h true is = h
closes_of items text set None h false is = absurd (false≢true is)
closes_of items text set (Some next) h true is = absurd (false≢true (sym is))
closes_of items text set (Some next) h false is = (next, h)

pub ends_alike : (items : List Item) (first : Bool) (text : List ℕ) (set : ℕ) (next : Option ℕ) (end : Bool) → ((first ≡ true) ↔ (length text ≡ 0)) → Stepped items text (length text) set next → is_some next ≡ not end → Ends items first set end
ends_alike items first text set next end kind h is = λ other also.
    closes_of items other set next (stepped_alike items text (length text) other (length other) (last_alike first text other kind also) (last_alike first other text also kind) set next h) end is

-- a row goes on being one as sets are added
pub entry_grown : (items : List Item) (old new : List ℕ) (first : Bool) (byte set entry : ℕ) → Grown old new → Entry items old first byte set entry → Entry items new first byte set entry
entry_grown items old new first byte set entry grown h =
    ⊎_elim (λ found. inl found) (λ more. inr (more.0, more.1, (more.2.0, grown entry more.2.0 more.2.1, more.2.2))) h

pub made_grown : (items : List Item) (old new : List ℕ) (number : ℕ) (row : Row) → Grown old new → IsMade items old number row → IsMade items new number row
made_grown items old new number row grown h = (
  h.0,
  grown number h.0 h.1,
  record {
    entries = λ byte fits. entry_grown items old new (number == 0) byte h.0 (slice_index row.next byte) grown (h.2.entries byte fits);
    ends = h.2.ends;
    leaving = h.2.leaving;
  },
)

abbrev row_in : Row → Option Row → Row
row_in other None = other
row_in other (Some row) = row

last_or : (rows : List Row) (row r : Row) (i : ℕ) → slice_get (rows ++ row ∷ []) i ≡ Some r → (slice_get rows i ≡ Some r) ⊎ ((i ≡ length rows) × (row ≡ r))
last_or [] row r zero is = inr (refl, ap (row_in row) is)
last_or [] row r (suc i) is = absurd (omega (arith, slice_get_within {A = Row} [] i r is))
last_or (x ∷ rows) row r zero is = inl is
last_or (x ∷ rows) row r (suc i) is = ⊎_elim (λ a. inl a) (λ b. inr (ap suc b.0, b.1)) (last_or rows row r i is)

pub rows_more : (items : List Item) (old new : List ℕ) (rows : List Row) (row : Row) → Grown old new → AreRows items old rows → IsMade items new (length rows) row → AreRows items new (rows ++ row ∷ [])
rows_more items old new rows row grown made more i r is = ⊎_elim
    (λ before. made_grown items old new i r grown (made i r before))
    (λ last. subst (λ k. IsMade items new k r) (sym last.0) (subst (λ x. IsMade items new (length rows) x) last.1 more))
    (last_or rows row r i is)

abbrev pub Always : ℕ → Type 0
Always at = ⊤

module _ (items : List Item) (text : List ℕ) (at set : ℕ) (w : Waiting Always items text (states_of set) at) (within : at ≤ length text) where
  begun_reached : (from : List ℕ) → Begins (length items) (states_of set) from → (s : ℕ) → Contains from s → Reached items text s at
  begun_reached from begins s h = ⊎_elim (λ old. w.sound s old) (λ z. (0, (z, within))) (begins.only s h)

  spread_of : (from all next : List ℕ) → Begins (length items) (states_of set) from → Passes items text from all next at → Spread items text from all next at
  spread_of from all next begins p = record {
    kept = p.kept;
    next_sound = λ s h. next_reached items text from at (begun_reached from begins) all p.sound s (p.next_sound s h);
    closed = p.closed;
    unfinished = p.unfinished;
  }

  pub stepped_end : Stepped items text at set None → ReachesEnd items text
  stepped_end h = (at, still_reached items text h.0 at (begun_reached h.0 h.1) (length items) h.2)

  pub stepped_next : (next : ℕ) → Stepped items text at set (Some next) → Waiting Always items text (states_of next) (at + 1)
  stepped_next next h = waiting_next Always items text (states_of set) h.0 h.1 (states_of next) at w h.2.kept (λ z. h.2.start) (spread_of h.0 h.1 (states_of next) h.2 h.3)

  stepped_done : (next : ℕ) → length text ≤ at → Stepped items text at set (Some next) → ReachesEnd items text → ⊥
  stepped_done next last h end =
      waiting_done Always items text (states_of set) h.0 h.1 (states_of next) at w h.2.kept (λ z. h.2.start) (spread_of h.0 h.1 (states_of next) h.2 h.3) last end.0 (end.1.0, begun_anywhere items text Always (λ k. tt) end.1.0 (length items) end.0 end.1.1)

pub closes_says : (items : List Item) (text : List ℕ) (set : ℕ) (end : Bool) → Waiting Always items text (states_of set) (length text) → Closes items text set end → (end ≡ true) ↔ ReachesEnd items text
closes_says items text set true w h = (λ t. stepped_end items text (length text) set w (omega arith) h, λ e. refl)
closes_says items text set false w h = (λ t. absurd (false≢true t), λ e. absurd (stepped_done items text (length text) set w (omega arith) h.0 (omega arith) h.1 e))

abbrev number_in : Option ℕ → ℕ
number_in None = 0
number_in (Some x) = x

-- the row with a number
abbrev pub row_at : List Row → ℕ → Row
row_at rows number = get_or rows number (record { next = []; end = false; leaving = Nothing })

-- before the search by a table looks at a place, it stands at a set that has the states there
pub record Stands (items : List Item) (rows : List Row) (text : List ℕ) (number at : ℕ) : Type 0 where
  pub sets : List ℕ
  pub enough : length sets ≤ length rows
  pub made : AreRows items sets rows
  pub low : number < 128
  pub set : ℕ
  pub is : slice_get sets number ≡ Some set
  pub kind : ((number == 0) ≡ true) ↔ (at ≡ 0)
  pub waiting : Waiting Always items text (states_of set) at

no_state : (s : ℕ) → Contains (states_of 0) s → ⊥
no_state s h = false≢true (sym (has-none s) ∙ members_pass (has_state 0) s h)

nothing_waits : (items : List Item) (text : List ℕ) → Waiting Always items text (states_of 0) 0
nothing_waits items text = record {
  sound = λ s h. absurd (no_state s h);
  fed = λ t k s lt ever lead le. absurd (omega (arith, lt));
  none = λ k lt ever. absurd (omega (arith, lt));
}

pub stands_first : (items : List Item) (rows : List Row) (text : List ℕ) → IsTable items rows → Stands items rows text 0 0
stands_first items rows text t = record {
  sets = t.0;
  enough = t.1;
  made = t.3;
  low = omega arith;
  set = 0;
  is = t.2;
  kind = (λ e. refl, λ e. refl);
  waiting = nothing_waits items text;
}

module _ (items : List Item) (rows : List Row) (text : List ℕ) (number at : ℕ) (s : Stands items rows text number at) where
  pub stands_inside : number < length rows
  stands_inside = omega (arith, s.enough, slice_get_within s.sets number s.set s.is)

  pub stands_row : slice_get rows number ≡ Some (row_at rows number)
  stands_row = slice_get-get_or rows number (record { next = []; end = false; leaving = Nothing }) stands_inside

  module _ (row : Row) (here : slice_get rows number ≡ Some row) where
    pub row_is : IsRow items s.sets number s.set row
    row_is = let m = s.made number row here in subst (λ x. IsRow items s.sets number x row) (ap number_in (sym m.1 ∙ s.is)) m.2

    module _ (within : at < length text) (fits : slice_index text at < 256) where
      entry_is : Entry items s.sets (number == 0) (slice_index text at) s.set (slice_index row.next (slice_index text at))
      entry_is = row_is.entries (slice_index text at) fits

      pub stands_found : slice_index row.next (slice_index text at) ≡ 255 → ReachesEnd items text
      stands_found e = ⊎_elim
          (λ h. stepped_end items text at s.set s.waiting (omega (arith, within)) (h.1 text at within refl s.kind))
          (λ h. absurd (omega (arith, h.1, e)))
          entry_is

      pub stands_next : (slice_index row.next (slice_index text at) ≡ 255 → ⊥) → Stands items rows text (slice_index row.next (slice_index text at)) (at + 1)
      stands_next ne = ⊎_elim
          (λ h. absurd (ne h.0))
          (λ h. record {
            sets = s.sets;
            enough = s.enough;
            made = s.made;
            low = h.1;
            set = h.2.0;
            is = h.2.1;
            kind = (λ e. absurd (omega (arith, h.0, eqb-true (slice_index row.next (slice_index text at)) 0 e)), λ e. absurd (omega (arith, e)));
            waiting = stepped_next items text at s.set s.waiting (omega (arith, within)) h.2.0 (h.2.2 text at within refl s.kind);
          })
          entry_is

      pub stands_kept : leaves row.leaving (slice_index text at) ≡ false → Stands items rows text number (at + 1)
      stands_kept kept =
          let same : slice_index row.next (slice_index text at) ≡ number = stays row.next number (slice_index text at) row.leaving row_is.leaving fits kept in
          subst (λ n. Stands items rows text n (at + 1)) same (stands_next (λ e. omega (arith, same, e, s.low)))

    pub stands_end : at ≡ length text → ((row.end ≡ true) ↔ ReachesEnd items text)
    stands_end last = closes_says items text s.set row.end
        (subst (Waiting Always items text (states_of s.set)) last s.waiting)
        (row_is.ends text (λ e. sym last ∙ s.kind.0 e, λ e. s.kind.1 (last ∙ e)))

-- over bytes that do not lead elsewhere the search stands at the same set
module _ (items : List Item) (rows : List Row) (text : List ℕ) (number : ℕ) (row : Row) (here : slice_get rows number ≡ Some row) (fit : (k : ℕ) → slice_index text k < 256) (at : ℕ) (s : Stands items rows text number at) where
  stands_far : (n to : ℕ) → at + n ≡ to → to ≤ length text → ((k : ℕ) → at ≤ k → k < to → leaves row.leaving (slice_index text k) ≡ false) → Stands items rows text number to
  stands_far zero to is within kept = let same : at ≡ to = omega arith in subst (λ k. Stands items rows text number k) same s
  stands_far (suc n) to is within kept =
      let before : Stands items rows text number (at + n) = stands_far n (at + n) refl (omega arith) (λ k low high. kept k low (omega arith)) in
      let same : at + n + 1 ≡ to = omega arith in
      subst (λ k. Stands items rows text number k) same
      (stands_kept items rows text number (at + n) before row here (omega arith) (fit (at + n)) (kept (at + n) (omega arith) (omega arith)))

  pub stands_on : (to : ℕ) → at ≤ to → to ≤ length text → ((k : ℕ) → at ≤ k → k < to → leaves row.leaving (slice_index text k) ≡ false) → Stands items rows text number to
  stands_on to from within kept = stands_far (to - at) to (omega arith) within kept
