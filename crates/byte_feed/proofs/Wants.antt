-- Readers of so many bytes, run on what lies ahead in a feed.
use Rattle.std.proofs.Common.{◌≡◌, eqb-true, ℕ, ◌+◌, ◌-◌, ◌<◌, ◌≤◌, Bool, true, false, cond, eqb, ltb, List, [], ◌∷◌, ◌++◌, length, take, drop, Option, Some, None, Result, Ok, Err, refl, sym, ap, ◌∙◌, append_assoc, append-nil, length-append, length-take, length-drop, arith, inl, inr}
use Rattle.std.specs.Prelude.{nat_le, nat_eq, ◌&&◌}
use Rattle.std.specs.List.{starts_with}
use Rattle.byteorder.specs.Endian.{big_number}
use Rattle.byteorder.specs.Numbers.{big_from-take}
use Rattle.std.proofs.lemmas.Bool.{lt-leb, le-leb, le-ltb, ltb-false, eq-eqb, ne_eqb, cases_lt}
use Rattle.std.proofs.lemmas.List.{take_all, take-append-drop, take-append-le, drop-append-le, nil_from_length}
use Rattle.std.proofs.Math.Seq.{take-append-add}
use Rattle.byte_feed.specs.declared.damage.DamageCause.{DamageCause}
use Rattle.byte_feed.specs.declared.damage.DamageCause.TheVariants.{Cut}
use Rattle.byte_feed.specs.declared.damage.Stop.{Stop}
use Rattle.byte_feed.specs.declared.damage.Stop.TheVariants.{NotADatabase, Broken}
use Rattle.byte_feed.specs.declared.damage.Break.{Break}
use Rattle.byte_feed.specs.declared.damage.Break.TheVariants.{ReadFault, TooLarge, Stopped}
use Rattle.byte_feed.specs.Front.{limit}
use Rattle.byte_feed.specs.Field.{Reads, ◌>>=◌, magic_at, byte_at, number_at, demand}
use Rattle.byte_feed.specs.Feed.{FeedState, file, window, so_far, TookKnown, IsAllAhead}
use Rattle.byte_feed.specs.Stream.{is_cut, broken_at, Fails, Breaks, BreaksAt, StreamGives}
use Rattle.byte_feed.proofs.Fields.{ok_is, guard_ok, seq}
use Rattle.byte_feed.proofs.Streams.{differ, done}
use Rattle.byte_feed.proofs.TakenOff.{file_open, file_shut, took_then, took_held, window_took, more_took}

-- what reading gives where so many more bytes follow
abbrev pub carry : {Y : Type 0} → List ℕ → Result (Y × List ℕ) Stop → Result (Y × List ℕ) Stop
carry more (Ok x) = Ok (x.0, x.1 ++ more)
carry more (Err s) = Err s

-- A reader takes so many bytes, looks at no others, and is never cut where there are so many.
pub record Wants {Y : Type 0} (want : ℕ) (read : Reads Y) : Type 0 where
  pub on : (bytes more : List ℕ) → want ≤ length bytes → read (bytes ++ more) ≡ carry more (read bytes)
  pub takes : (bytes : List ℕ) (y : Y) (rest : List ℕ) → read bytes ≡ Ok (y, rest) → length bytes ≡ want + length rest
  pub enough : (bytes : List ℕ) (s : Stop) → want ≤ length bytes → read bytes ≡ Err s → is_cut s ≡ false

abbrev is_cut_off : {A : Type 0} → Result A Stop → Bool
is_cut_off (Ok x) = false
is_cut_off (Err s) = is_cut s

abbrev failed : {A : Type 0} → Stop → Result A Stop
failed s = Err s

same_cut : {A : Type 0} (s t : Stop) → failed {A = A} s ≡ failed t → is_cut s ≡ false → is_cut t ≡ false
same_cut s t e h = sym (ap is_cut_off e) ∙ h

pub wants_ok : {Y : Type 0} (y : Y) → Wants 0 (λ bytes. Ok (y, bytes))
wants_ok {Y} y = record {
  on = λ bytes more le. refl;
  takes = λ bytes z rest e. omega (arith, ap (λ (p : Y × List ℕ). length p.1) (ok_is (y, bytes) (z, rest) e));
  enough = λ bytes s le e. absurd cc;
}

wants_test : {Y : Type 0} (want : ℕ) (c : DamageCause) (read : Reads Y) (b : Bool) → is_cut (Broken c) ≡ false → Wants want read → Wants want (λ bytes. demand b c >>= λ _. read bytes)
wants_test want c read true not_cut w = record { on = w.on; takes = w.takes; enough = w.enough }
wants_test {Y} want c read false not_cut w = record {
  on = λ bytes more le. refl;
  takes = λ bytes y rest e. absurd cc;
  enough = λ bytes s le e. same_cut {A = Y × List ℕ} (Broken c) s e not_cut;
}

pub wants_demand : {Y : Type 0} (want : ℕ) (b : Bool) (c : DamageCause) (read : Reads Y) → is_cut (Broken c) ≡ false → Wants want read → Wants want (λ bytes. demand b c >>= λ _. read bytes)
wants_demand want b c read not_cut w = wants_test want c read b not_cut w

same_err : {A B : Type 0} (s t : Stop) → failed {A = A} s ≡ failed t → failed {A = B} s ≡ failed t
same_err s t e = ap Err cc

and_right : (a b : Bool) → (a && b) ≡ true → b ≡ true
and_right true b e = e
and_right false b e = absurd cc

-- one reader, and then another
module _ {Y Z : Type 0} (n m : ℕ) (read : Reads Y) (next : Y → Reads Z) (w : Wants n read) (v : (y : Y) → Wants m (next y)) where
  abbrev both : List ℕ → Result (Z × List ℕ) Stop
  both bytes = read bytes >>= λ p. next p.0 p.1

  on_by : (bytes more : List ℕ) → n + m ≤ length bytes → (r : Result (Y × List ℕ) Stop) → read bytes ≡ r → (carry more r >>= λ p. next p.0 p.1) ≡ carry more (r >>= λ p. next p.0 p.1)
  on_by bytes more le (Ok p) e = (v p.0).on p.1 more (omega (arith, w.takes bytes p.0 p.1 e, le))
  on_by bytes more le (Err s) e = refl

  enough_by : (bytes : List ℕ) (s : Stop) → n + m ≤ length bytes → (r : Result (Y × List ℕ) Stop) → read bytes ≡ r → (r >>= λ p. next p.0 p.1) ≡ Err s → is_cut s ≡ false
  enough_by bytes s le (Ok p) e f = (v p.0).enough p.1 s (omega (arith, w.takes bytes p.0 p.1 e, le)) f
  enough_by bytes s le (Err t) e f = w.enough bytes s (omega (arith, le)) (e ∙ same_err t s f)

  pub wants_then : Wants (n + m) both
  wants_then = record {
    on = λ bytes more le. ap (λ (r : Result (Y × List ℕ) Stop). r >>= λ p. next p.0 p.1) (w.on bytes more (omega (arith, le))) ∙ on_by bytes more le (read bytes) refl;
    takes = λ bytes z rest e. seq (read bytes) (λ p. next p.0 p.1) (z, rest) _ e (λ (p : Y × List ℕ) e1 e2. omega (arith, w.takes bytes p.0 p.1 e1, (v p.0).takes p.1 z rest e2));
    enough = λ bytes s le e. enough_by bytes s le (read bytes) refl e;
  }

on_byte : (bytes more : List ℕ) → 1 ≤ length bytes → byte_at (bytes ++ more) ≡ carry more (byte_at bytes)
on_byte [] more le = absurd (omega (arith, le))
on_byte (b ∷ bytes) more le = refl

byte_takes_one : (bytes : List ℕ) (y : ℕ) (rest : List ℕ) → byte_at bytes ≡ Ok (y, rest) → length bytes ≡ 1 + length rest
byte_takes_one [] y rest e = absurd cc
byte_takes_one (b ∷ bytes) y rest e = omega (arith, ap (λ (p : ℕ × List ℕ). length p.1) (ok_is (b, bytes) (y, rest) e))

byte_enough : (bytes : List ℕ) (s : Stop) → 1 ≤ length bytes → byte_at bytes ≡ Err s → is_cut s ≡ false
byte_enough [] s le e = absurd (omega (arith, le))
byte_enough (b ∷ bytes) s le e = absurd cc

pub wants_byte : Wants 1 byte_at
wants_byte = record { on = on_byte; takes = byte_takes_one; enough = byte_enough }

ok_no_err : {A : Type 0} (x : A) (s : Stop) (P : Type 0) → ◌≡◌ {A = Result A Stop} (Ok x) (Err s) → P
ok_no_err x s P e = absurd cc

-- the first bytes of a number decide it
number_on : (width : ℕ) (bytes more : List ℕ) → width ≤ length bytes → big_number width (bytes ++ more) ≡ big_number width bytes
number_on width bytes more le =
    sym (big_from-take 0 width width (bytes ++ more) (omega arith)) ∙ ap (big_number width) (take-append-le width bytes more le) ∙ big_from-take 0 width width bytes (omega arith)

pub number_there : (width : ℕ) (bytes : List ℕ) → width ≤ length bytes → number_at width bytes ≡ Ok (big_number width bytes, drop width bytes)
number_there width bytes le = rw (le-ltb (length bytes) width le) refl

pub wants_number : (width : ℕ) → Wants width (number_at width)
wants_number width = record {
  on = λ bytes more le. number_there width (bytes ++ more) (omega (arith, le, length-append bytes more))
      ∙ ap (λ (p : ℕ × List ℕ). Ok p) (λ i. (number_on width bytes more le i, drop-append-le width bytes more le i))
      ∙ ap (carry more) (sym (number_there width bytes le));
  takes = λ bytes y rest e.
      let g = guard_ok (ltb (length bytes) width) (Broken Cut) (Ok (big_number width bytes, drop width bytes)) (y, rest) e in
      let long : width ≤ length bytes = ltb-false _ _ g.0 in
      omega (arith, long, length-drop width bytes, ap (λ (p : ℕ × List ℕ). length p.1) (ok_is (big_number width bytes, drop width bytes) (y, rest) g.1));
  enough = λ bytes s le e. ok_no_err _ s _ (sym (number_there width bytes le) ∙ e);
}

-- ---- the bytes that a format begins with

starts_on : (bytes more magic : List ℕ) → length magic ≤ length bytes → starts_with nat_eq (bytes ++ more) magic ≡ starts_with nat_eq bytes magic
starts_on bytes more magic le = rw (take-append-le (length magic) bytes more le) refl

magic_by : (magic bytes more : List ℕ) (t : Bool) → length magic ≤ length bytes → cond t (done {A = Unit {0} × List ℕ} (tt {0}, drop (length magic) (bytes ++ more))) (Err NotADatabase) ≡ carry more (cond t (done (tt {0}, drop (length magic) bytes)) (Err NotADatabase))
magic_by magic bytes more true le = ap (λ (l : List ℕ). Ok (tt {0}, l)) (drop-append-le (length magic) bytes more le)
magic_by magic bytes more false le = refl

starts_len : (bytes magic : List ℕ) → starts_with nat_eq bytes magic ≡ true → length magic ≤ length bytes
starts_len bytes [] e = omega arith
starts_len [] (m ∷ magic) e = absurd cc
starts_len (b ∷ bytes) (m ∷ magic) e = omega (arith, starts_len bytes magic (and_right _ _ e))

magic_takes : (magic bytes : List ℕ) (u : Unit {0}) (rest : List ℕ) (t : Bool) → starts_with nat_eq bytes magic ≡ t → cond t (done {A = Unit {0} × List ℕ} (tt {0}, drop (length magic) bytes)) (Err NotADatabase) ≡ Ok (u, rest) → length bytes ≡ length magic + length rest
magic_takes magic bytes u rest true is e =
    omega (arith, starts_len bytes magic is, length-drop (length magic) bytes, ap (λ (p : Unit {0} × List ℕ). length p.1) (ok_is (tt {0}, drop (length magic) bytes) (u, rest) e))
magic_takes magic bytes u rest false is e = absurd cc

magic_enough : (magic bytes : List ℕ) (s : Stop) (t : Bool) → cond t (done {A = Unit {0} × List ℕ} (tt {0}, drop (length magic) bytes)) (Err NotADatabase) ≡ Err s → is_cut s ≡ false
magic_enough magic bytes s true e = absurd cc
magic_enough magic bytes s false e = same_cut {A = Unit {0} × List ℕ} NotADatabase s e refl

pub wants_magic : (magic : List ℕ) → Wants (length magic) (magic_at magic)
wants_magic magic = record {
  on = λ bytes more le. ap (λ (t : Bool). cond t (done {A = Unit {0} × List ℕ} (tt {0}, drop (length magic) (bytes ++ more))) (Err NotADatabase)) (starts_on bytes more magic le) ∙ magic_by magic bytes more (starts_with nat_eq bytes magic) le;
  takes = λ bytes u rest e. magic_takes magic bytes u rest (starts_with nat_eq bytes magic) refl e;
  enough = λ bytes s le e. magic_enough magic bytes s (starts_with nat_eq bytes magic) e;
}

-- ---- on what lies ahead

short_by : {Y : Type 0} (want : ℕ) (read : Reads Y) → Wants want read → (bytes : List ℕ) → length bytes < want → (r : Result (Y × List ℕ) Stop) → read bytes ≡ r → Fails r
short_by want read w bytes lt (Ok x) e = absurd (omega (arith, w.takes bytes x.0 x.1 e, lt))
short_by want read w bytes lt (Err s) e = tt

held_in : (f : FeedState) (b : List ℕ) (e : Bool) → f.ended ≡ e → (P : Type 0) → ((more : List ℕ) → file f b ≡ f.held ++ more → P) → P
held_in f b false is P go = go b (file_open f b is)
held_in f b true is P go = go [] (file_shut f b is ∙ sym (append-nil f.held))

-- the source failed before so many bytes lay ahead
pub looked_fault : {X Y : Type 0} (want : ℕ) (u : X → Y) (read : Reads Y) → Wants want read → (f f' : FeedState) (l l' : Option (List ℕ)) → TookKnown f l f' l' [] → f'.ended ≡ false → length f'.held < want → StreamGives u read f l f' l' (Err ReadFault)
unfolding StreamGives
looked_fault want u read w f f' None l' t going few = tt
looked_fault want u read w f f' (Some a) None t going few = absurd t
looked_fault want u read w f f' (Some a) (Some b) t going few =
    let on = t.goes_on going in
    let part : List ℕ = take (length (file f a) - length b) (file f a) in
    let short : length (so_far f a (length b)).bytes < want = omega (arith, few, length-take (limit - f.offset) part, length-take (length (file f a) - length b) (file f a), ap length t.bytes, ap length (file_open f' b going), length-append f'.held b) in
    record { goes_on = on.0; fewer = on.1; none = short_by want read w (so_far f a (length b)).bytes short (read (so_far f a (length b)).bytes) refl }

-- a value was read off what lies ahead, which is then handed out
pub looked_ok : {X Y : Type 0} (want n : ℕ) (u : X → Y) (read : Reads Y) → Wants want read → (f f' f'' : FeedState) (l l' : Option (List ℕ)) (x : X) (rest : List ℕ)
    → TookKnown f l f' l' [] → n ≤ want → n ≤ length f'.held → read (take n f'.held) ≡ Ok (u x, rest)
    → f''.held ≡ drop n f'.held → f''.ended ≡ f'.ended → f''.offset ≡ f'.offset + n → f''.offset ≤ limit → StreamGives u read f l f'' l' (Ok x)
unfolding StreamGives
looked_ok want n u read w f f' f'' None l' x rest t most held e held'' ended'' offset'' fits = tt
looked_ok want n u read w f f' f'' (Some a) None x rest t most held e held'' ended'' offset'' fits = absurd t
looked_ok want n u read w f f' f'' (Some a) (Some b) x rest t most held e held'' ended'' offset'' fits =
    let text : List ℕ = take n f'.held in
    let len : length text ≡ n = omega (arith, length-take n f'.held, held) in
    let all : length text ≡ want + length rest = w.takes text (u x) rest e in
    let none : rest ≡ [] = nil_from_length rest (omega (arith, len, all, most)) in
    let whole : f'.held ≡ text ++ f''.held = sym (take-append-drop n f'.held) ∙ ap (λ (d : List ℕ). text ++ d) (sym held'') in
    let passed : TookKnown f' (Some b) f'' (Some b) text = took_held f' f'' (Some b) text ended'' whole (omega (arith, offset'', len)) fits in
    record {
      text = text;
      took = took_then f f' f'' (Some a) (Some b) (Some b) [] text t passed;
      gives = λ more. w.on text more (omega (arith, all)) ∙ ap (carry more) e ∙ ap (λ (d : List ℕ). Ok (u x, d ++ more)) none;
    }

cut_is : (s : Stop) → is_cut s ≡ true → s ≡ Broken Cut
cut_is (Broken Cut) e = refl
cut_is s e = absurd cc

breaks_by : {Y : Type 0} (read : Reads Y) (f : FeedState) (a : List ℕ) (n : ℕ) (s : Stop) (cut last : Bool) → is_cut s ≡ cut → read (window f a).bytes ≡ Err s → (is_cut s ≡ true → (window f a).more ≡ last) → Breaks read f a n (cond (cut && last) TooLarge (Stopped s))
breaks_by read f a n s true true is e more = (e ∙ ap Err (cut_is s is), more is)
breaks_by read f a n s true false is e more = (e, λ h. more h)
breaks_by read f a n s false last is e more = (e, λ h. absurd (differ (sym is ∙ h)))

breaks_at : {Y : Type 0} (read : Reads Y) (f : FeedState) (a : List ℕ) (n end : ℕ) (s : Stop) → read (window f a).bytes ≡ Err s → (is_cut s ≡ true → (window f a).more ≡ eqb end limit) → Breaks read f a n (broken_at end s)
breaks_at read f a n end s e more = breaks_by read f a n s (is_cut s) (eqb end limit) refl e more

le_is_eq : (n m : ℕ) → m ≤ n → nat_le n m ≡ eqb m n
le_is_eq n m le =
    elim (cases_lt m n) [
      | inl lt ↦ lt-leb n m lt ∙ sym (ne_eqb m n (λ e. absurd (omega (arith, e, lt))))
      | inr ge ↦ le-leb n m ge ∙ sym (eq-eqb m n (omega (arith, le, ge)))
    ]

-- the bytes that may be read where all of them lie ahead
pub all_ahead : (f : FeedState) (b : List ℕ) (n : ℕ) (e : Bool) → f.ended ≡ e → IsAllAhead f n → f.offset + length f.held ≤ limit → ((window f b).bytes ≡ f.held) × ((window f b).more ≡ eqb (f.offset + n) limit)
all_ahead f b n false is all fits =
    let last = all.last is in (
      ap (take (limit - f.offset)) (file_open f b is) ∙ take-append-le (limit - f.offset) f.held b (omega (arith, last, all.held)) ∙ take_all _ _ (omega (arith, last, all.held)),
      le-leb limit (f.offset + length (file f b)) (omega (arith, last, all.held, ap length (file_open f b is), length-append f.held b)) ∙ sym (eq-eqb (f.offset + n) limit last),
    )
all_ahead f b n true is all fits = (
  ap (take (limit - f.offset)) (file_shut f b is) ∙ take_all _ _ (omega (arith, fits)),
  ap (λ (l : List ℕ). nat_le limit (f.offset + length l)) (file_shut f b is) ∙ ap (λ (m : ℕ). nat_le limit (f.offset + m)) all.held ∙ le_is_eq limit (f.offset + n) (omega (arith, fits, all.held)),
)

-- nothing is known
known_none : {X Y : Type 0} (u : X → Y) (read : Reads Y) (f f' : FeedState) (l' : Option (List ℕ)) (b : Break) → StreamGives u read f None f' l' (Err b)
unfolding StreamGives
known_none u read f f' l' b = tt

-- what lies ahead breaks a rule
pub looked_err : {X Y : Type 0} (want n : ℕ) (u : X → Y) (read : Reads Y) → Wants want read → (f f' : FeedState) (l l' : Option (List ℕ)) (s : Stop)
    → TookKnown f l f' l' [] → n ≤ length f'.held → (n < want → IsAllAhead f' n) → f'.offset + length f'.held ≤ limit → read (take n f'.held) ≡ Err s → StreamGives u read f l f' l' (Err (broken_at (f'.offset + n) s))
unfolding StreamGives
looked_err want n u read w f f' None l' s t held all fits e = known_none u read f f' l' (broken_at (f'.offset + n) s)
looked_err want n u read w f f' (Some a) None s t held all fits e = absurd t
looked_err want n u read w f f' (Some a) (Some b) s t held all fits e =
    elim (cases_lt n want) [
      | inl lt ↦
          let every = all lt in
          let parts = all_ahead f' b n f'.ended refl every fits in
          let whole : (window f a).bytes ≡ take n f'.held = window_took f f' a b [] t ∙ parts.0 ∙ sym (take_all n f'.held (omega (arith, every.held))) in
          breaks_at read f a (length b) (f'.offset + n) s (ap read whole ∙ e) (λ is. sym (more_took f f' a b [] t) ∙ parts.1)
      | inr le ↦
          held_in f' b f'.ended refl _ (λ more is.
          let text : List ℕ = take n f'.held in
          let rest : List ℕ = drop n f'.held ++ more in
          let split : file f' b ≡ text ++ rest = is ∙ ap (λ (l : List ℕ). l ++ more) (sym (take-append-drop n f'.held)) ∙ append_assoc text (drop n f'.held) more in
          let len : length text ≡ n = omega (arith, length-take n f'.held, held) in
          let whole : (window f a).bytes ≡ text ++ take (limit - f'.offset - n) rest = window_took f f' a b [] t ∙ ap (take (limit - f'.offset)) split ∙ ap (λ (m : ℕ). take m (text ++ rest)) (omega (arith, len, held, fits)) ∙ take-append-add text rest (limit - f'.offset - n) in
          breaks_at read f a (length b) (f'.offset + n) s (ap read whole ∙ w.on text (take (limit - f'.offset - n) rest) (omega (arith, len, le)) ∙ ap (carry (take (limit - f'.offset - n) rest)) e)
          (λ cut. absurd (differ (sym (w.enough text s (omega (arith, len, le)) e) ∙ cut))))
    ]

shut_by : (f : FeedState) (n : ℕ) (e : Bool) → f.ended ≡ e → IsAllAhead f n → eqb (f.offset + n) limit ≡ false → f.ended ≡ true
shut_by f n true is all last = is
shut_by f n false is all last = absurd (differ (sym last ∙ eq-eqb (f.offset + n) limit (all.last is)))

broke_by : (X : Type 0) (f : FeedState) (n : ℕ) (s : Stop) (cut last : Bool) → is_cut s ≡ cut → eqb (f.offset + n) limit ≡ last → (is_cut s ≡ true → IsAllAhead f n) → BreaksAt {X = X} f (Err (cond (cut && last) TooLarge (Stopped s)))
broke_by X f n s true true is at all = omega (arith, (all is).held, eqb-true (f.offset + n) limit at)
broke_by X f n s true false is at all = λ h. shut_by f n f.ended refl (all is) at
broke_by X f n s false last is at all = λ h. absurd (differ (sym is ∙ h))

-- where reading broke off
pub looked_broke : (X : Type 0) {Y : Type 0} (want n : ℕ) (read : Reads Y) → Wants want read → (f : FeedState) (s : Stop)
    → n ≤ length f.held → (n < want → IsAllAhead f n) → read (take n f.held) ≡ Err s → BreaksAt {X = X} f (Err (broken_at (f.offset + n) s))
looked_broke X want n read w f s held all e =
    broke_by X f n s (is_cut s) (eqb (f.offset + n) limit) refl refl (λ cut.
    elim (cases_lt n want) [
      | inl lt ↦ all lt
      | inr le ↦ absurd (differ (sym (w.enough (take n f.held) s (omega (arith, length-take n f.held, held, le)) e) ∙ cut))
    ])
