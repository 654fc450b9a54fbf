-- Words laid one behind the other.
use Rattle.std.proofs.Common.{◌≡◌, ℕ, ◌+◌, ◌-◌, ◌<◌, ◌≤◌, List, [], ◌∷◌, ◌++◌, map, length, take, drop, get_or, Bor, refl, ap, sym, subst, ◌∙◌, arith, length-append, append-nil, append_assoc}
use Rattle.std.proofs.lemmas.List.{take-append-le, drop-append-le, drop_at, length-drop, take_more, map-append, take_all}
use Rattle.std.proofs.Math.Seq.{take-length}
use Rattle.std.proofs.lemmas.Grind.{flat_map-append}
use Rattle.std.specs.List.{flat_map}
use Rattle.updatedb_conf.specs.Block.{zero_ended}
use Rattle.updatedb_conf.specs.declared.word_set.Span.{Span}
use Rattle.updatedb_conf.specs.Stored.{piece, pieces}

-- each piece ends within so many bytes
abbrev pub Within : ℕ → List Span → Type 0
Within room [] = Unit {0}
Within room (span ∷ spans) = (span.start + span.len ≤ room) × Within room spans

Within-wider : (room more : ℕ) (spans : List Span) → Within room spans → Within (room + more) spans
Within-wider room more [] h = tt
Within-wider room more (span ∷ spans) h = (omega (arith, h.0), Within-wider room more spans h.1)

Within-push : (room : ℕ) (spans : List Span) (span : Span) → Within room spans → span.start + span.len ≤ room → Within room (spans ++ span ∷ [])
Within-push room [] span h e = (e, tt)
Within-push room (s ∷ spans) span h e = (h.0, Within-push room spans span h.1 e)

piece-append : (text more : List ℕ) (span : Span) → span.start + span.len ≤ length text → piece (text ++ more) span ≡ piece text span
piece-append text more span h =
    let starts : span.start ≤ length text = omega arith in
    let ends : span.len ≤ length (drop span.start text) = omega (arith, length-drop span.start text) in
    rw drop-append-le (rw take-append-le refl)

pieces-append : (text more : List ℕ) (spans : List Span) → Within (length text) spans → pieces (text ++ more) spans ≡ pieces text spans
pieces-append text more [] h = refl
pieces-append text more (span ∷ spans) h = λ i. piece-append text more span h.0 i ∷ pieces-append text more spans h.1 i

pieces-push : (text : List ℕ) (spans : List Span) (span : Span) → pieces text (spans ++ span ∷ []) ≡ pieces text spans ++ piece text span ∷ []
pieces-push text [] span = refl
pieces-push text (s ∷ spans) span = ap (λ ps. piece text s ∷ ps) (pieces-push text spans span)

abbrev pub next_span : List ℕ → List ℕ → Span
next_span text word = record { start = length text; len = length word }

piece_next : (text word : List ℕ) → piece (text ++ word) (next_span text word) ≡ word
piece_next text word = ap (take (length word)) (drop_at text word (length text) refl) ∙ take-length word

-- a word is laid behind the others
pub pieces_next : (text word : List ℕ) (spans : List Span) (so_far : List (List ℕ)) → Within (length text) spans → pieces text spans ≡ so_far → pieces (text ++ word) (spans ++ next_span text word ∷ []) ≡ so_far ++ word ∷ []
pieces_next text word spans so_far within is =
    pieces-push (text ++ word) spans (next_span text word)
    ∙ ap (λ ps. ps ++ piece (text ++ word) (next_span text word) ∷ []) (pieces-append text word spans within ∙ is)
    ∙ ap (λ p. so_far ++ p ∷ []) (piece_next text word)

pub Within_next : (text word : List ℕ) (spans : List Span) → Within (length text) spans → Within (length (text ++ word)) (spans ++ next_span text word ∷ [])
Within_next text word spans within =
    rw (length-append text word) (Within-push (length text + length word) spans (next_span text word) (Within-wider (length text) (length word) spans within) (omega arith))

abbrev pub texts : List (Bor (List ℕ)) → List (List ℕ)
texts list = map (λ word. word.now) list

-- the next word of a list is laid behind those before it
pub laid_next : (list : List (Bor (List ℕ))) (i : ℕ) (d : Bor (List ℕ)) (text text' : List ℕ) (spans spans' : List Span) (start : ℕ) → i < length list → start ≡ length text → spans' ≡ spans ++ record { start = start; len = length ((get_or list i d).now) } ∷ [] → text' ≡ text ++ (get_or list i d).now → Within (length text) spans → pieces text spans ≡ texts (take i list) → (pieces text' spans' ≡ texts (take (i + 1) list)) × Within (length text') spans'
laid_next list i d text text' spans spans' start here starts laid_spans laid_text within is =
    let word = (get_or list i d).now in
    let placed : spans' ≡ spans ++ next_span text word ∷ [] =
    laid_spans ∙ ap (λ n. let span : Span = record { start = n; len = length word } in spans ++ span ∷ []) starts in
    let more : texts (take i list) ++ word ∷ [] ≡ texts (take (i + 1) list) =
    sym (ap texts (take_more list i d here) ∙ map-append (λ w. w.now) (take i list) (get_or list i d ∷ [])) in (
      (λ j. pieces (laid_text j) (placed j)) ∙ pieces_next text word spans _ within is ∙ more,
      subst (λ t. Within (length t) spans') (sym laid_text) (subst (λ s. Within (length (text ++ word)) s) (sym placed) (Within_next text word spans within)),
    )

-- after the last word all are laid
pub laid_all : (list : List (Bor (List ℕ))) (i : ℕ) (text : List ℕ) (spans : List Span) → length list ≤ i → pieces text spans ≡ texts (take i list) → pieces text spans ≡ texts list
laid_all list i text spans end is = is ∙ ap texts (take_all i list end)

-- the next piece is written behind those before it, with a zero byte
pub put_next : (text : List ℕ) (spans : List Span) (i : ℕ) (d : Span) (start before after ended word : List ℕ) → i < length spans → word ≡ piece text (get_or spans i d) → after ≡ before ++ word → ended ≡ after ++ 0 ∷ [] → before ≡ start ++ flat_map zero_ended (pieces text (take i spans)) → ended ≡ start ++ flat_map zero_ended (pieces text (take (i + 1) spans))
put_next text spans i d start before after ended word here is puts ends so_far =
    let more : flat_map zero_ended (pieces text (take (i + 1) spans)) ≡ flat_map zero_ended (pieces text (take i spans)) ++ (word ++ 0 ∷ []) =
    ap (λ l. flat_map zero_ended (pieces text l)) (take_more spans i d here)
    ∙ ap (flat_map zero_ended) (pieces-push text (take i spans) (get_or spans i d))
    ∙ flat_map-append zero_ended (pieces text (take i spans)) (piece text (get_or spans i d) ∷ [])
    ∙ ap (λ l. flat_map zero_ended (pieces text (take i spans)) ++ l) (append-nil _ ∙ ap (λ w. w ++ 0 ∷ []) (sym is)) in
    ends ∙ ap (λ l. l ++ 0 ∷ []) (puts ∙ ap (λ l. l ++ word) so_far)
    ∙ append_assoc (start ++ flat_map zero_ended (pieces text (take i spans))) word (0 ∷ [])
    ∙ append_assoc start (flat_map zero_ended (pieces text (take i spans))) (word ++ 0 ∷ [])
    ∙ ap (λ l. start ++ l) (sym more)

-- after the last all are written
pub put_all : (text : List ℕ) (spans : List Span) (i : ℕ) (start block : List ℕ) → length spans ≤ i → block ≡ start ++ flat_map zero_ended (pieces text (take i spans)) → block ≡ start ++ flat_map zero_ended (pieces text spans)
put_all text spans i start block end is = is ∙ ap (λ l. start ++ flat_map zero_ended (pieces text l)) (take_all i spans end)
