-- What is taken off a file, step by step.
use Rattle.std.proofs.Common.{◌≡◌, ℕ, ◌+◌, ◌-◌, ◌≤◌, Bool, true, false, cond, List, [], ◌++◌, length, take, Option, Some, None, refl, sym, ap, subst, ◌∙◌, append_assoc, append-nil, length-append, arith}
use Rattle.std.specs.Prelude.{nat_le}
use Rattle.std.specs.Io.KnownBytes.{Consumes, IsAtEnd}
use Rattle.std.proofs.Math.Seq.{take-append-add}
use Rattle.byte_feed.specs.Front.{limit}
use Rattle.byte_feed.specs.Feed.{FeedState, file, window, so_far, Took, TookKnown}

pub file_open : (f : FeedState) (l : List ℕ) → f.ended ≡ false → file f l ≡ f.held ++ l
file_open f l e = ap (λ (b : Bool). cond b f.held (f.held ++ l)) e

pub file_shut : (f : FeedState) (l : List ℕ) → f.ended ≡ true → file f l ≡ f.held
file_shut f l e = ap (λ (b : Bool). cond b f.held (f.held ++ l)) e

pub took_none : (f : FeedState) (l : Option (List ℕ)) → TookKnown f l f l []
took_none f None = tt
took_none f (Some a) = record { bytes = refl; offset = omega arith; fits = omega arith; goes_on = λ e. (e, omega arith) }

-- nothing changed
pub took_same : (f f' : FeedState) (l l' : Option (List ℕ)) → f' ≡ f → l' ≡ l → TookKnown f l f' l' []
took_same f f' l l' e d = subst (λ (g : FeedState). TookKnown f l g l' []) (sym e) (subst (λ (m : Option (List ℕ)). TookKnown f l f m []) (sym d) (took_none f l))

-- another spelling of the text
pub took_as : (f f' : FeedState) (l l' : Option (List ℕ)) (text text' : List ℕ) → text' ≡ text → TookKnown f l f' l' text → TookKnown f l f' l' text'
took_as f f' l l' text text' e t = subst (λ (x : List ℕ). TookKnown f l f' l' x) (sym e) t

true_false : true ≡ false → ⊥
true_false e = absurd cc

grown_by : (f f' : FeedState) (a b got : List ℕ) (e : Bool) → f'.ended ≡ e → f.ended ≡ false → a ≡ got ++ b → (f'.ended ≡ true → (got ≡ []) × (b ≡ [])) → f'.held ≡ f.held ++ got → f'.offset ≡ f.offset → Took f a f' b []
grown_by f f' a b got false is going all last held same = record {
  bytes = file_open f a going ∙ ap (λ (l : List ℕ). f.held ++ l) all ∙ sym (append_assoc f.held got b) ∙ sym (file_open f' b is ∙ ap (λ (l : List ℕ). l ++ b) held);
  offset = omega (arith, same);
  fits = omega arith;
  goes_on = λ e. (going, omega (arith, ap length all, length-append got b));
}
grown_by f f' a b got true is going all last held same = record {
  bytes = file_open f a going ∙ ap (λ (l : List ℕ). f.held ++ l) (all ∙ ap (λ (l : List ℕ). got ++ l) (last is).1 ∙ append-nil got) ∙ sym (file_shut f' b is ∙ held);
  offset = omega (arith, same);
  fits = omega arith;
  goes_on = λ e. absurd (true_false (sym is ∙ e));
}

-- what was read behind what was held
pub took_grown : (f f' : FeedState) (l l' : Option (List ℕ)) (got : List ℕ) → f.ended ≡ false → Consumes l l' got → (f'.ended ≡ true → (got ≡ []) × IsAtEnd l') → f'.held ≡ f.held ++ got → f'.offset ≡ f.offset → TookKnown f l f' l' []
took_grown f f' None l' got going all last held same = tt
took_grown f f' (Some a) None got going all last held same = absurd all
took_grown f f' (Some a) (Some b) got going all last held same = grown_by f f' a b got f'.ended refl going all last held same

-- bytes that were held
held_by : (f f' : FeedState) (a : List ℕ) (text : List ℕ) (e : Bool) → f.ended ≡ e → f'.ended ≡ f.ended → f.held ≡ text ++ f'.held → f'.offset ≡ f.offset + length text → f'.offset ≤ limit → Took f a f' a text
held_by f f' a text false is still parts moved fits = record {
  bytes = file_open f a is ∙ ap (λ (l : List ℕ). l ++ a) parts ∙ append_assoc text f'.held a ∙ ap (λ (l : List ℕ). text ++ l) (sym (file_open f' a (still ∙ is)));
  offset = moved;
  fits = omega (arith, moved, fits);
  goes_on = λ e. (is, omega arith);
}
held_by f f' a text true is still parts moved fits = record {
  bytes = file_shut f a is ∙ parts ∙ ap (λ (l : List ℕ). text ++ l) (sym (file_shut f' a (still ∙ is)));
  offset = moved;
  fits = omega (arith, moved, fits);
  goes_on = λ e. (sym still ∙ e, omega arith);
}

pub took_held : (f f' : FeedState) (l : Option (List ℕ)) (text : List ℕ) → f'.ended ≡ f.ended → f.held ≡ text ++ f'.held → f'.offset ≡ f.offset + length text → f'.offset ≤ limit → TookKnown f l f' l text
took_held f f' None text still parts moved fits = tt
took_held f f' (Some a) text still parts moved fits = held_by f f' a text f.ended refl still parts moved fits

pub took_then : (f f' f'' : FeedState) (l l' l'' : Option (List ℕ)) (xs ys : List ℕ) → TookKnown f l f' l' xs → TookKnown f' l' f'' l'' ys → TookKnown f l f'' l'' (xs ++ ys)
took_then f f' f'' None l' l'' xs ys p q = tt
took_then f f' f'' (Some a) None l'' xs ys p q = absurd p
took_then f f' f'' (Some a) (Some b) None xs ys p q = absurd q
took_then f f' f'' (Some a) (Some b) (Some c) xs ys p q = record {
  bytes = p.bytes ∙ ap (λ (l : List ℕ). xs ++ l) q.bytes ∙ sym (append_assoc xs ys (file f'' c));
  offset = omega (arith, p.offset, q.offset, length-append xs ys);
  fits = omega (arith, p.fits, q.fits, p.offset, length-append xs ys);
  goes_on = λ e. let r = q.goes_on e in let s = p.goes_on r.0 in (s.0, omega (arith, r.1, s.1));
}

-- ---- what that makes of the bytes that may be read

front_of : (n m : ℕ) (text rest : List ℕ) → n ≡ length text + m → take n (text ++ rest) ≡ text ++ take m rest
front_of n m text rest e = rw e (take-append-add text rest m)

pub window_took : (f f' : FeedState) (a b text : List ℕ) → Took f a f' b text → (window f a).bytes ≡ text ++ (window f' b).bytes
window_took f f' a b text t =
    ap (take (limit - f.offset)) t.bytes ∙ front_of (limit - f.offset) (limit - f'.offset) text (file f' b) (omega (arith, t.offset, t.fits))

pub more_took : (f f' : FeedState) (a b text : List ℕ) → Took f a f' b text → (window f' b).more ≡ (window f a).more
more_took f f' a b text t =
    ap (nat_le limit) (omega (arith, t.offset, ap length t.bytes, length-append text (file f' b)))

pub so_far_took : (f f' : FeedState) (a b text : List ℕ) (n : ℕ) → Took f a f' b text → f'.ended ≡ false → n ≤ length b → (so_far f a n).bytes ≡ text ++ (so_far f' b n).bytes
so_far_took f f' a b text n t going le =
    let rest : List ℕ = file f' b in
    let len : length rest ≡ length f'.held + length b = ap length (file_open f' b going) ∙ length-append f'.held b in
    let all : length (file f a) ≡ length text + length rest = ap length t.bytes ∙ length-append text rest in
    let part : take (length (file f a) - n) (file f a) ≡ text ++ take (length rest - n) rest =
    ap (take (length (file f a) - n)) t.bytes ∙ front_of (length (file f a) - n) (length rest - n) text rest (omega (arith, all, len, le)) in
    ap (take (limit - f.offset)) part ∙ front_of (limit - f.offset) (limit - f'.offset) text (take (length rest - n) rest) (omega (arith, t.offset, t.fits))
