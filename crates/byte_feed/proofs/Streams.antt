-- What is read off a stream, field by field.
use Rattle.std.proofs.Common.{◌≡◌, ℕ, ◌+◌, ◌-◌, ◌<◌, ◌≤◌, Bool, true, false, eqb, ltb, All, List, [], ◌∷◌, ◌++◌, length, take, Option, Some, None, Result, Ok, Err, refl, sym, ap, subst, ◌∙◌, append_assoc, append-nil, arith}
use Rattle.std.proofs.lemmas.Bool.{lt-leb, le-leb, lt-ltb, le-ltb, eq-eqb}
use Rattle.std.specs.List.{position_or_len}
use Rattle.std.proofs.Math.Seq.{take-nil}
use Rattle.byte_feed.specs.declared.damage.DamageCause.{DamageCause}
use Rattle.byte_feed.specs.declared.damage.DamageCause.TheVariants.{Cut, LongPath}
use Rattle.byte_feed.specs.declared.damage.Stop.{Stop}
use Rattle.byte_feed.specs.declared.damage.Stop.TheVariants.{Broken}
use Rattle.byte_feed.specs.declared.damage.Break.{Break}
use Rattle.byte_feed.specs.declared.damage.Break.TheVariants.{ReadFault, TooLarge, Stopped}
use Rattle.byte_feed.specs.Front.{limit}
use Rattle.byte_feed.specs.Field.{Reads, ◌>>=◌, demand, is_zero, byte_at, ended_at, text_at, IsPlain, ended}
use Rattle.byte_feed.specs.Feed.{FeedState, file, window, so_far, Took, TookKnown}
use Rattle.byte_feed.specs.Stream.{is_cut, Fails, StreamGives}
use Rattle.byte_feed.proofs.Fields.{ok_is, len_plain, len_on, ended_again}
use Rattle.byte_feed.proofs.TakenOff.{file_open, file_shut, took_none, took_then, window_took, more_took, so_far_took}

pub differ : false ≡ true → ⊥
differ e = absurd cc

abbrev pub done : {A : Type 0} → A → Result A Stop
done x = Ok x

-- ---- one byte

pub byte_some : (f f' : FeedState) (l l' : Option (List ℕ)) (b : ℕ) → TookKnown f l f' l' (b ∷ []) → StreamGives (λ (n : ℕ). n) byte_at f l f' l' (Ok b)
unfolding StreamGives
byte_some f f' None l' b t = tt
byte_some f f' (Some x) None b t = absurd t
byte_some f f' (Some x) (Some y) b t = record { text = b ∷ []; took = t; gives = λ rest. refl }

nothing_in : (f : FeedState) (a : List ℕ) (e : Bool) → f.ended ≡ e → f.held ≡ [] → length (file f a) ≤ length a
nothing_in f a false is none = omega (arith, ap length (file_open f a is ∙ ap (λ (l : List ℕ). l ++ a) none))
nothing_in f a true is none = omega (arith, ap length (file_shut f a is ∙ none))

take_none : (n : ℕ) (xs : List ℕ) → n ≡ 0 → take n xs ≡ []
take_none n xs e = rw e refl

pub byte_none : (f f' : FeedState) (l l' : Option (List ℕ)) → TookKnown f l f' l' [] → f'.held ≡ [] → f'.ended ≡ true → f.offset < limit → StreamGives {X = ℕ} (λ n. n) byte_at f l f' l' (Err (Stopped (Broken Cut)))
unfolding StreamGives
byte_none f f' None l' t none shut lt = tt
byte_none f f' (Some x) None t none shut lt = absurd t
byte_none f f' (Some x) (Some y) t none shut lt =
    let empty : file f x ≡ [] = t.bytes ∙ file_shut f' y shut ∙ none in
    (rw (empty, take-nil) refl, λ _. rw empty (lt-leb limit (f.offset + 0) (omega arith)))

pub byte_large : (f f' : FeedState) (l l' : Option (List ℕ)) → TookKnown f l f' l' [] → f.offset ≡ limit → StreamGives {X = ℕ} (λ n. n) byte_at f l f' l' (Err TooLarge)
unfolding StreamGives
byte_large f f' None l' t e = tt
byte_large f f' (Some x) None t e = absurd t
byte_large f f' (Some x) (Some y) t e =
    (ap byte_at (take_none (limit - f.offset) (file f x) (omega (arith, e))), le-leb limit (f.offset + length (file f x)) (omega (arith, e)))

is_err : {A : Type 0} (c : Stop) (r : Result A Stop) → r ≡ Err c → Fails r
is_err c r e = rw e tt

pub byte_fault : (f f' : FeedState) (l l' : Option (List ℕ)) → TookKnown f l f' l' [] → f'.held ≡ [] → f'.ended ≡ false → StreamGives {X = ℕ} (λ n. n) byte_at f l f' l' (Err ReadFault)
unfolding StreamGives
byte_fault f f' None l' t none going = tt
byte_fault f f' (Some x) None t none going = absurd t
byte_fault f f' (Some x) (Some y) t none going =
    let on = t.goes_on going in
    let short : length (file f x) ≤ length y = omega (arith, ap length t.bytes, nothing_in f' y f'.ended refl none) in
    let bytes : (so_far f x (length y)).bytes ≡ [] = ap (take (limit - f.offset)) (take_none (length (file f x) - length y) (file f x) (omega (arith, short))) ∙ take-nil (limit - f.offset) in
    record { goes_on = on.0; fewer = on.1; none = is_err (Broken Cut) _ (ap byte_at bytes) }

byte_inv : (bytes : List ℕ) (n : ℕ) (rest : List ℕ) → byte_at bytes ≡ Ok (n, rest) → bytes ≡ n ∷ rest
byte_inv [] n rest e = absurd cc
byte_inv (b ∷ bytes) n rest e = ap (λ (p : ℕ × List ℕ). p.0 ∷ p.1) (ok_is (b, bytes) (n, rest) e)

-- the byte that was read was taken
pub byte_took : (f f' : FeedState) (l l' : Option (List ℕ)) (b : ℕ) → StreamGives (λ (n : ℕ). n) byte_at f l f' l' (Ok b) → TookKnown f l f' l' (b ∷ [])
unfolding StreamGives
byte_took f f' None l' b g = tt
byte_took f f' (Some x) None b g = absurd g
byte_took f f' (Some x) (Some y) b g = subst (Took f x f' y) (sym (append-nil g.text) ∙ byte_inv (g.text ++ []) b [] (g.gives [])) g.took

-- ---- one after the other

bind_err : {A B : Type 0} (r : Result A Stop) (k : A → Result B Stop) → Fails r → Fails (r >>= k)
bind_err (Ok x) k e = absurd e
bind_err (Err c) k e = tt

bound_at : {A B : Type 0} (r : Result A Stop) (k : A → Result B Stop) (x : A) (y : Result B Stop) → r ≡ Ok x → k x ≡ y → (r >>= k) ≡ y
bound_at r k x y e f = ap (λ (s : Result _ Stop). s >>= k) e ∙ f

pub stream_then : {X Y Z V : Type 0} (v : X → Y) (r : Reads Y) (next : Y → Reads V) (u : Z → V) (f0 f1 f2 : FeedState) (l0 l1 l2 : Option (List ℕ)) (x : X) (result : Result Z Break)
    → StreamGives v r f0 l0 f1 l1 (Ok x) → StreamGives u (next (v x)) f1 l1 f2 l2 result → StreamGives u (λ bytes. r bytes >>= λ p. next p.0 p.1) f0 l0 f2 l2 result
unfolding StreamGives
stream_then v r next u f0 f1 f2 None l1 l2 x result p q = tt
stream_then v r next u f0 f1 f2 (Some a) None l2 x result p q = absurd p
stream_then v r next u f0 f1 f2 (Some a) (Some b) None x result p q = absurd q
stream_then v r next u f0 f1 f2 (Some a) (Some b) (Some c) x (Ok z) p q = record {
  text = p.text ++ q.text;
  took = took_then f0 f1 f2 (Some a) (Some b) (Some c) p.text q.text p.took q.took;
  gives = λ rest. bound_at (r ((p.text ++ q.text) ++ rest)) (λ s. next s.0 s.1) (v x, q.text ++ rest) _ (ap r (append_assoc p.text q.text rest) ∙ p.gives (q.text ++ rest)) (q.gives rest);
}
stream_then v r next u f0 f1 f2 (Some a) (Some b) (Some c) x (Err ReadFault) p q =
    let on = p.took.goes_on q.goes_on in
    let part : r (so_far f0 a (length c)).bytes ≡ Ok (v x, (so_far f1 b (length c)).bytes) = ap r (so_far_took f0 f1 a b p.text (length c) p.took q.goes_on q.fewer) ∙ p.gives _ in
    record { goes_on = on.0; fewer = omega (arith, on.1, q.fewer); none = rw part q.none }
stream_then v r next u f0 f1 f2 (Some a) (Some b) (Some c) x (Err TooLarge) p q =
    let part : r (window f0 a).bytes ≡ Ok (v x, (window f1 b).bytes) = ap r (window_took f0 f1 a b p.text p.took) ∙ p.gives _ in
    (bound_at (r (window f0 a).bytes) (λ s. next s.0 s.1) _ _ part q.0, sym (more_took f0 f1 a b p.text p.took) ∙ q.1)
stream_then v r next u f0 f1 f2 (Some a) (Some b) (Some c) x (Err (Stopped d)) p q =
    let part : r (window f0 a).bytes ≡ Ok (v x, (window f1 b).bytes) = ap r (window_took f0 f1 a b p.text p.took) ∙ p.gives _ in
    (bound_at (r (window f0 a).bytes) (λ s. next s.0 s.1) _ _ part q.0, λ e. sym (more_took f0 f1 a b p.text p.took) ∙ q.1 e)

pub stream_err : {X Y Z V : Type 0} (v : X → Y) (r : Reads Y) (next : Y → Reads V) (u : Z → V) (f0 f1 : FeedState) (l0 l1 : Option (List ℕ)) (e : Break)
    → StreamGives v r f0 l0 f1 l1 (Err e) → StreamGives u (λ bytes. r bytes >>= λ p. next p.0 p.1) f0 l0 f1 l1 (Err e)
unfolding StreamGives
stream_err v r next u f0 f1 None l1 e p = tt
stream_err v r next u f0 f1 (Some a) None e p = absurd p
stream_err v r next u f0 f1 (Some a) (Some b) ReadFault p = record { goes_on = p.goes_on; fewer = p.fewer; none = bind_err _ _ p.none }
stream_err v r next u f0 f1 (Some a) (Some b) TooLarge p = (rw p.0 refl, p.1)
stream_err v r next u f0 f1 (Some a) (Some b) (Stopped s) p = (rw p.0 refl, p.1)

-- ---- nothing more is read

pub stream_ok : {X Y : Type 0} (u : X → Y) (x : X) (f : FeedState) (l : Option (List ℕ)) → StreamGives u (λ bytes. Ok (u x, bytes)) f l f l (Ok x)
unfolding StreamGives
stream_ok u x f None = tt
stream_ok u x f (Some a) = record { text = []; took = took_none f (Some a); gives = λ rest. refl }

pub stream_stop : {X Y : Type 0} (u : X → Y) (s : Stop) (f : FeedState) (l : Option (List ℕ)) → is_cut s ≡ false → StreamGives u (λ bytes. Err s) f l f l (Err (Stopped s))
unfolding StreamGives
stream_stop u s f None h = tt
stream_stop u s f (Some a) h = (refl, λ e. absurd (differ (sym h ∙ e)))

-- another spelling of the same reader
pub stream_same : {X Y : Type 0} (u : X → Y) (r s : Reads Y) (f f' : FeedState) (l l' : Option (List ℕ)) (result : Result X Break) → ((bytes : List ℕ) → r bytes ≡ s bytes) → StreamGives u r f l f' l' result → StreamGives u s f l f' l' result
unfolding StreamGives
stream_same u r s f f' None l' result same p = tt
stream_same u r s f f' (Some a) None result same p = absurd p
stream_same u r s f f' (Some a) (Some b) (Ok x) same p = record { text = p.text; took = p.took; gives = λ rest. sym (same (p.text ++ rest)) ∙ p.gives rest }
stream_same u r s f f' (Some a) (Some b) (Err ReadFault) same p = record { goes_on = p.goes_on; fewer = p.fewer; none = subst Fails (same (so_far f a (length b)).bytes) p.none }
stream_same u r s f f' (Some a) (Some b) (Err TooLarge) same p = (sym (same (window f a).bytes) ∙ p.0, p.1)
stream_same u r s f f' (Some a) (Some b) (Err (Stopped c)) same p = (sym (same (window f a).bytes) ∙ p.0, p.1)

-- ---- a text, byte by byte

-- the zero byte behind a text
pub ended_done : {X : Type 0} (room : ℕ) (u : X → List ℕ) (x : X) (text : List ℕ) (f f' : FeedState) (l l' : Option (List ℕ)) → u x ≡ text → IsPlain room text → TookKnown f l f' l' (ended text) → StreamGives u (ended_at room) f l f' l' (Ok x)
unfolding StreamGives
ended_done room u x text f f' None l' is h t = tt
ended_done room u x text f f' (Some a) None is h t = absurd t
ended_done room u x text f f' (Some a) (Some b) is h t = record { text = ended text; took = t; gives = λ rest. rw is (ended_again room text rest h) }

ended_open : (room : ℕ) (text : List ℕ) → All (λ b. 0 < b) text → length text ≤ room → ended_at room (text ++ []) ≡ Err (Broken Cut)
unfolding ended_at
ended_open room text plain fits = rw (append-nil text, len_plain text plain, le-ltb room (length text) fits, eq-eqb (length text) (length text) refl) refl

ended_over : (room : ℕ) (text : List ℕ) (b : ℕ) (rest : List ℕ) → All (λ c. 0 < c) text → room ≤ length text → eqb b 0 ≡ false → ended_at room (text ++ b ∷ rest) ≡ Err (Broken LongPath)
unfolding ended_at
ended_over room text b rest plain full some =
    let first : position_or_len is_zero (b ∷ rest) ≡ 1 + position_or_len is_zero rest = rw some refl in
    let over : ltb room (position_or_len is_zero (text ++ b ∷ rest)) ≡ true = lt-ltb _ _ (omega (arith, len_on text (b ∷ rest) plain, first)) in
    rw over refl

byte_cut : (bytes : List ℕ) (s : Stop) → byte_at bytes ≡ Err s → (bytes ≡ []) × (s ≡ Broken Cut)
byte_cut [] s e = (refl, cc)
byte_cut (b ∷ bytes) s e = absurd cc

byte_is_err : (bytes : List ℕ) → Fails (byte_at bytes) → bytes ≡ []
byte_is_err [] e = refl
byte_is_err (b ∷ bytes) e = absurd e

-- the source broke off behind some bytes, which are cut short
pub cut_off : {X Y : Type 0} (read : Reads Y) (u : X → Y) (text : List ℕ) (f0 f1 f2 : FeedState) (l0 l1 l2 : Option (List ℕ)) (e : Break) → read (text ++ []) ≡ Err (Broken Cut) → TookKnown f0 l0 f1 l1 text → StreamGives {X = ℕ} (λ n. n) byte_at f1 l1 f2 l2 (Err e) → StreamGives u read f0 l0 f2 l2 (Err e)
unfolding StreamGives
cut_off read u text f0 f1 f2 None l1 l2 e short t q = tt
cut_off read u text f0 f1 f2 (Some a) None l2 e short t q = absurd t
cut_off read u text f0 f1 f2 (Some a) (Some b) None e short t q = absurd q
cut_off read u text f0 f1 f2 (Some a) (Some b) (Some c) ReadFault short t q =
    let on = t.goes_on q.goes_on in
    let whole : (so_far f0 a (length c)).bytes ≡ text ++ [] = so_far_took f0 f1 a b text (length c) t q.goes_on q.fewer ∙ ap (λ (l : List ℕ). text ++ l) (byte_is_err _ q.none) in
    record { goes_on = on.0; fewer = omega (arith, on.1, q.fewer); none = is_err (Broken Cut) _ (ap read whole ∙ short) }
cut_off read u text f0 f1 f2 (Some a) (Some b) (Some c) TooLarge short t q =
    let whole : (window f0 a).bytes ≡ text ++ [] = window_took f0 f1 a b text t ∙ ap (λ (l : List ℕ). text ++ l) (byte_cut _ (Broken Cut) q.0).0 in
    (ap read whole ∙ short, sym (more_took f0 f1 a b text t) ∙ q.1)
cut_off read u text f0 f1 f2 (Some a) (Some b) (Some c) (Stopped s) short t q =
    let cut = byte_cut _ s q.0 in
    let whole : (window f0 a).bytes ≡ text ++ [] = window_took f0 f1 a b text t ∙ ap (λ (l : List ℕ). text ++ l) cut.0 in
    (ap read whole ∙ short ∙ ap Err (sym cut.1), λ is. sym (more_took f0 f1 a b text t) ∙ q.1 is)

-- the source broke off inside a text
pub ended_cut : {X : Type 0} (room : ℕ) (u : X → List ℕ) (text : List ℕ) (f0 f1 f2 : FeedState) (l0 l1 l2 : Option (List ℕ)) (e : Break) → All (λ b. 0 < b) text → length text ≤ room → TookKnown f0 l0 f1 l1 text → StreamGives {X = ℕ} (λ n. n) byte_at f1 l1 f2 l2 (Err e) → StreamGives u (ended_at room) f0 l0 f2 l2 (Err e)
ended_cut room u text f0 f1 f2 l0 l1 l2 e plain fits t q = cut_off (ended_at room) u text f0 f1 f2 l0 l1 l2 e (ended_open room text plain fits) t q

-- a byte that doesn't fit
pub ended_long : {X : Type 0} (room : ℕ) (u : X → List ℕ) (text : List ℕ) (b : ℕ) (f f' : FeedState) (l l' : Option (List ℕ)) → All (λ c. 0 < c) text → room ≤ length text → eqb b 0 ≡ false → TookKnown f l f' l' (text ++ b ∷ []) → StreamGives u (ended_at room) f l f' l' (Err (Stopped (Broken LongPath)))
unfolding StreamGives
ended_long room u text b f f' None l' plain full some t = tt
ended_long room u text b f f' (Some x) None plain full some t = absurd t
ended_long room u text b f f' (Some x) (Some y) plain full some t =
    (ap (ended_at room) (window_took f f' x y (text ++ b ∷ []) t ∙ append_assoc text (b ∷ []) _) ∙ ended_over room text b _ plain full some, λ e. absurd (differ e))

-- ---- a text with a byte at least

some_demand : {A : Type 0} (n : ℕ) (c : DamageCause) (x : A) → 0 < n → (demand (ltb 0 n) c >>= λ t. Ok x) ≡ done x
some_demand n c x lt = rw (lt-ltb 0 n lt) refl

none_demand : {A : Type 0} (n : ℕ) (c : DamageCause) (x : A) → n ≡ 0 → (demand (ltb 0 n) c >>= λ t. done x) ≡ Err (Broken c)
none_demand n c x e = rw e refl

pub text_some : {X Z : Type 0} (empty : DamageCause) (room : ℕ) (v : X → List ℕ) (x : X) (u : Z → List ℕ) (z : Z) (f f' : FeedState) (l l' : Option (List ℕ)) → u z ≡ v x → 0 < length (v x) → StreamGives v (ended_at room) f l f' l' (Ok x) → StreamGives u (text_at empty room) f l f' l' (Ok z)
unfolding StreamGives
text_some empty room v x u z f f' None l' is some p = tt
text_some empty room v x u z f f' (Some a) None is some p = absurd p
text_some empty room v x u z f f' (Some a) (Some b) is some p = record {
  text = p.text;
  took = p.took;
  gives = λ rest. bound_at _ _ _ _ (p.gives rest) (some_demand (length (v x)) empty (v x, rest) some ∙ ap (λ (t : List ℕ). Ok (t, rest)) (sym is));
}

pub text_none : {X Z : Type 0} (empty : DamageCause) (room : ℕ) (v : X → List ℕ) (x : X) (u : Z → List ℕ) (f f' : FeedState) (l l' : Option (List ℕ)) → is_cut (Broken empty) ≡ false → length (v x) ≡ 0 → StreamGives v (ended_at room) f l f' l' (Ok x) → StreamGives u (text_at empty room) f l f' l' (Err (Stopped (Broken empty)))
unfolding StreamGives
text_none empty room v x u f f' None l' h none p = tt
text_none empty room v x u f f' (Some a) None h none p = absurd p
text_none empty room v x u f f' (Some a) (Some b) h none p =
    let part : ended_at room (window f a).bytes ≡ Ok (v x, (window f' b).bytes) = ap (ended_at room) (window_took f f' a b p.text p.took) ∙ p.gives _ in
    (bound_at _ _ _ _ part (none_demand (length (v x)) empty (v x, (window f' b).bytes) none), λ e. absurd (differ (sym h ∙ e)))

pub text_err : {X Z : Type 0} (empty : DamageCause) (room : ℕ) (v : X → List ℕ) (u : Z → List ℕ) (f f' : FeedState) (l l' : Option (List ℕ)) (e : Break) → StreamGives v (ended_at room) f l f' l' (Err e) → StreamGives u (text_at empty room) f l f' l' (Err e)
text_err empty room v u f f' l l' e p = stream_err v (ended_at room) (λ (y rest : List ℕ). demand (ltb 0 (length y)) empty >>= λ t. done (y, rest)) u f f' l l' e p

-- what was read ahead changes nothing
pub stream_after : {X Y : Type 0} (u : X → Y) (r : Reads Y) (f0 f1 f2 : FeedState) (l0 l1 l2 : Option (List ℕ)) (result : Result X Break) → TookKnown f0 l0 f1 l1 [] → StreamGives u r f1 l1 f2 l2 result → StreamGives u r f0 l0 f2 l2 result
unfolding StreamGives
stream_after u r f0 f1 f2 None l1 l2 result t q = tt
stream_after u r f0 f1 f2 (Some a) None l2 result t q = absurd t
stream_after u r f0 f1 f2 (Some a) (Some b) None result t q = absurd q
stream_after u r f0 f1 f2 (Some a) (Some b) (Some c) (Ok x) t q = record { text = q.text; took = took_then f0 f1 f2 (Some a) (Some b) (Some c) [] q.text t q.took; gives = q.gives }
stream_after u r f0 f1 f2 (Some a) (Some b) (Some c) (Err ReadFault) t q =
    let on = t.goes_on q.goes_on in
    record { goes_on = on.0; fewer = omega (arith, on.1, q.fewer); none = rw (so_far_took f0 f1 a b [] (length c) t q.goes_on q.fewer) q.none }
stream_after u r f0 f1 f2 (Some a) (Some b) (Some c) (Err TooLarge) t q = (ap r (window_took f0 f1 a b [] t) ∙ q.0, sym (more_took f0 f1 a b [] t) ∙ q.1)
stream_after u r f0 f1 f2 (Some a) (Some b) (Some c) (Err (Stopped d)) t q = (ap r (window_took f0 f1 a b [] t) ∙ q.0, λ e. sym (more_took f0 f1 a b [] t) ∙ q.1 e)
