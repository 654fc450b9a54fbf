-- What a directory adds to a walk.
use Rattle.std.proofs.Common.{◌≡◌, ℕ, ◌≤◌, ◌<◌, ◌+◌, ◌^◌, Bool, true, false, not, cond, ◌&&◌, ◌==◌, List, [], ◌∷◌, ◌++◌, length, flat_map, refl, sym, ◌∙◌, ap, subst, arith, append-nil, Option, Some, true≢false, if◌then◌else◌}
use Rattle.std.specs.FinMap.{get, entries}
use Rattle.std.specs.Io.KnownBytes.{Appends}
use Rattle.std.proofs.KnownBytes.{Appends-nil}
use Rattle.std.proofs.lemmas.List.Elements.{All-cons}
use Rattle.path_order.specs.NameList.{Listed}
use Rattle.path_order.specs.Stamp.{Moment}
use Rattle.loc_outside.specs.Causes.{raised}
use Rattle.loc_outside.specs.Outside.{AppendsPart}
use Rattle.loc_outside.proofs.PartTaken.{part_none}
use Rattle.loc_outside.specs.Trees.{Dir, Dirs}
use Rattle.tree_scan.specs.Admitted.{admitted, paths_in}
use Rattle.tree_scan.specs.Blocks.{block, block_pieces, block_text, entries_of, lines, lines_of, pieces, stamped, time_of}
use Rattle.tree_scan.specs.Plan.{Plan}
use Rattle.tree_scan.specs.Reach.{is_open, is_tried}
use Rattle.tree_scan.specs.Records.{Record, is_vouched, unvouched}
use Rattle.tree_scan.specs.Steps.{here, weight}
use Rattle.tree_scan.specs.Stops.{LinesFollow, Narrow, taken}
use Rattle.tree_scan.specs.Walks.{AddsChildren, Breaks, Passes, opens, standing}
use Rattle.tree_scan.specs.declared.progress.Progress.{Progress}
use Rattle.tree_scan.proofs.Follows.{Pieces, follows_none}
use Rattle.tree_scan.proofs.WrittenNames.{some_is}
use Rattle.tree_scan.proofs.TreeAnswers.{one, here_open, next_open, here_tried, Nothing}

abbrev Known : Type 0
Known = Option (List ℕ)

pub raised_none : (n : ℕ) (b : Bool) → n < 2 ^ 64 → b ≡ true → n ≡ raised n (if b then 0 else 1)
raised_none n b small e = subst (λ (t : Bool). n ≡ raised n (if t then 0 else 1)) (sym e) (omega (arith, small))

pub raised_some : (n m : ℕ) (b : Bool) → b ≡ false → m ≡ raised n 1 → m ≡ raised n (if b then 0 else 1)
raised_some n m b e h = subst (λ (t : Bool). m ≡ raised n (if t then 0 else 1)) (sym e) h

pub raised_bound : (n m : ℕ) (b : Bool) → b ≡ false → m ≡ raised n 1 → m ≤ n + (if b then 0 else 1)
raised_bound n m b e h = subst (λ (t : Bool). m ≤ n + (if t then 0 else 1)) (sym e) (omega (arith, h))

-- a directory that was written
pub passes_shown : (dirs : Dirs) (plan : Plan) (now time stamp : Moment) (written device : ℕ) (path : List ℕ) (dir : Dir) (names : Listed) (u v e f : Known) (old new : Progress)
    → get dirs path ≡ Some dir → plan.pruned path ≡ false → (dir.hidden ≡ false) × (names ≡ admitted path dir) → time ≡ time_of dir.times
    → stamp ≡ stamped plan.margin time now → written ≡ (if plan.version == 1 then device else 0) → device ≡ plan.device_of path
    → Appends u v (block_text stamp written path names) → Appends e f (lines_of plan.verbose path names)
    → new.pending ≡ paths_in path names ++ old.pending → new.tried ≡ old.tried + 1 → new.counts.directories ≡ old.counts.directories + 1 → new.counts.entries ≡ old.counts.entries + length names
    → Passes dirs plan now path (standing u e old) (standing v f new)
passes_shown dirs plan now time stamp written device path dir names u v e f old new found open_ seen at stamp_is written_is device_is put lined pushed tried_is blocks_is entries_is =
    let here_is : here dirs (is_open plan.pruned) path ≡ one path dir = here_open dirs plan.pruned path dir found open_ ∙ ap (λ (b : Bool). cond b [] (one path dir)) seen.0 in
    let text : block_text stamp written path names ≡ block plan now (path, dir) =
    λ i. block_text ((stamp_is ∙ ap (λ (t : Moment). stamped plan.margin t now) at) i) ((written_is ∙ ap (λ (d : ℕ). if plan.version == 1 then d else 0) device_is) i) path (seen.1 i) in
    record {
      taken = subst (λ (l : List ℕ). Appends u v l) (text ∙ sym (ap (flat_map (block plan now)) here_is ∙ append-nil (block plan now (path, dir)))) put;
      echoed = subst (λ (l : List ℕ). Appends e f l) (ap (lines_of plan.verbose path) seen.1 ∙ sym (ap (flat_map (lines plan)) here_is ∙ append-nil (lines plan (path, dir)))) lined;
      pending = pushed ∙ ap (λ (l : Listed). paths_in path l ++ old.pending) seen.1
          ∙ ap (λ (l : List (List ℕ)). l ++ old.pending) (sym (next_open dirs plan.pruned path dir found open_ ∙ ap (λ (b : Bool). cond b [] (paths_in path (admitted path dir))) seen.0));
      tried = tried_is ∙ ap (λ (l : List (List ℕ × Dir)). old.tried + length l) (sym (here_tried dirs plan.pruned path dir found open_));
      blocks = blocks_is ∙ ap (λ (l : List (List ℕ × Dir)). old.counts.directories + length l) (sym here_is);
      entries = entries_is ∙ ap (λ (l : Listed). old.counts.entries + length l) (seen.1 ∙ sym (ap entries_of here_is ∙ append-nil (admitted path dir)));
    }

-- one that was tried, and is hidden
pub passes_hidden : (dirs : Dirs) (plan : Plan) (now : Moment) (path : List ℕ) (dir : Dir) (u e : Known) (old new : Progress) → get dirs path ≡ Some dir → plan.pruned path ≡ false → dir.hidden ≡ true
    → new.pending ≡ old.pending → new.tried ≡ old.tried + 1 → new.counts.directories ≡ old.counts.directories → new.counts.entries ≡ old.counts.entries → Passes dirs plan now path (standing u e old) (standing u e new)
passes_hidden dirs plan now path dir u e old new found open_ hidden pending_is tried_is blocks_is entries_is =
    let here_is : here dirs (is_open plan.pruned) path ≡ [] = here_open dirs plan.pruned path dir found open_ ∙ ap (λ (b : Bool). cond b [] (one path dir)) hidden in
    record {
      taken = subst (λ (l : List (List ℕ × Dir)). Appends u u (flat_map (block plan now) l)) (sym here_is) (Appends-nil u);
      echoed = subst (λ (l : List (List ℕ × Dir)). Appends e e (flat_map (lines plan) l)) (sym here_is) (Appends-nil e);
      pending = pending_is ∙ ap (λ (l : List (List ℕ)). l ++ old.pending) (sym (next_open dirs plan.pruned path dir found open_ ∙ ap (λ (b : Bool). cond b [] (paths_in path (admitted path dir))) hidden));
      tried = tried_is ∙ ap (λ (l : List (List ℕ × Dir)). old.tried + length l) (sym (here_tried dirs plan.pruned path dir found open_));
      blocks = blocks_is ∙ sym (ap (λ (l : List (List ℕ × Dir)). old.counts.directories + length l) here_is ∙ omega arith);
      entries = entries_is ∙ sym (ap (λ (l : List (List ℕ × Dir)). old.counts.entries + length (entries_of l)) here_is ∙ omega arith);
    }

-- one that is not there, or pruned
pub passes_nothing : (dirs : Dirs) (plan : Plan) (now : Moment) (path : List ℕ) (u e : Known) (old : Progress) → Nothing dirs plan.pruned path → Passes dirs plan now path (standing u e old) (standing u e old)
passes_nothing dirs plan now path u e old n = record {
  taken = subst (λ (l : List (List ℕ × Dir)). Appends u u (flat_map (block plan now) l)) (sym n.shown) (Appends-nil u);
  echoed = subst (λ (l : List (List ℕ × Dir)). Appends e e (flat_map (lines plan) l)) (sym n.shown) (Appends-nil e);
  pending = ap (λ (l : List (List ℕ)). l ++ old.pending) (sym n.next);
  tried = sym (ap (λ (l : List (List ℕ × Dir)). old.tried + length l) n.tried ∙ omega arith);
  blocks = sym (ap (λ (l : List (List ℕ × Dir)). old.counts.directories + length l) n.shown ∙ omega arith);
  entries = sym (ap (λ (l : List (List ℕ × Dir)). old.counts.entries + length (entries_of l)) n.shown ∙ omega arith);
}

-- a block that broke off
pub breaks_shown : (dirs : Dirs) (plan : Plan) (now time stamp : Moment) (written device : ℕ) (path : List ℕ) (dir : Dir) (names : Listed) (u v e f : Known)
    → get dirs path ≡ Some dir → plan.pruned path ≡ false → (dir.hidden ≡ false) × (names ≡ admitted path dir) → time ≡ time_of dir.times
    → stamp ≡ stamped plan.margin time now → written ≡ (if plan.version == 1 then device else 0) → device ≡ plan.device_of path
    → AppendsPart u v (block_text stamp written path names) → AppendsPart e f (lines_of plan.verbose path names) → LinesFollow (block_pieces plan.verbose stamp written path names) (taken u e) (taken v f) → Breaks dirs plan now path (taken u e) (taken v f)
breaks_shown dirs plan now time stamp written device path dir names u v e f found open_ seen at stamp_is written_is device_is put lined follows =
    let here_is : here dirs (is_open plan.pruned) path ≡ one path dir = here_open dirs plan.pruned path dir found open_ ∙ ap (λ (b : Bool). cond b [] (one path dir)) seen.0 in
    let text : block_text stamp written path names ≡ block plan now (path, dir) =
    λ i. block_text ((stamp_is ∙ ap (λ (t : Moment). stamped plan.margin t now) at) i) ((written_is ∙ ap (λ (d : ℕ). if plan.version == 1 then d else 0) device_is) i) path (seen.1 i) in
    let pieces_are : block_pieces plan.verbose stamp written path names ≡ pieces plan now (path, dir) =
    λ i. block_pieces plan.verbose ((stamp_is ∙ ap (λ (t : Moment). stamped plan.margin t now) at) i) ((written_is ∙ ap (λ (d : ℕ). if plan.version == 1 then d else 0) device_is) i) path (seen.1 i) in
    record {
      written = subst (λ (l : List ℕ). AppendsPart u v l) (text ∙ sym (ap (flat_map (block plan now)) here_is ∙ append-nil (block plan now (path, dir)))) put;
      lined = subst (λ (l : List ℕ). AppendsPart e f l) (ap (lines_of plan.verbose path) seen.1 ∙ sym (ap (flat_map (lines plan)) here_is ∙ append-nil (lines plan (path, dir)))) lined;
      follows = subst (λ (l : Pieces). LinesFollow l (taken u e) (taken v f)) (pieces_are ∙ sym (ap (flat_map (pieces plan now)) here_is ∙ append-nil (pieces plan now (path, dir)))) follows;
    }

-- nothing was written
pub breaks_none : (dirs : Dirs) (plan : Plan) (now : Moment) (path : List ℕ) (u v e f : Known) → v ≡ u → f ≡ e → Breaks dirs plan now path (taken u e) (taken v f)
breaks_none dirs plan now path u v e f same_t same_e = record {
  written = subst (λ (o : Known). AppendsPart u o (flat_map (block plan now) (here dirs (is_open plan.pruned) path))) (sym same_t) (part_none u _);
  lined = subst (λ (o : Known). AppendsPart e o (flat_map (lines plan) (here dirs (is_open plan.pruned) path))) (sym same_e) (part_none e _);
  follows = subst (λ (o : Known). LinesFollow (flat_map (pieces plan now) (here dirs (is_open plan.pruned) path)) (taken u e) (taken o f)) (sym same_t) (subst (λ (o : Known). LinesFollow (flat_map (pieces plan now) (here dirs (is_open plan.pruned) path)) (taken u e) (taken u o)) (sym same_e) (follows_none _ u e));
}

-- what a directory is worth
pub opens_one : (records : List Record) (dirs : Dirs) (plan : Plan) (path : List ℕ) (dir : Dir) (time : Moment) → get dirs path ≡ Some dir → plan.pruned path ≡ false → time ≡ time_of dir.times
    → opens records dirs plan path ≡ (if is_vouched records path time (plan.device_of path) then 0 else 1)
opens_one records dirs plan path dir time found open_ at =
    ap (λ (l : List (List ℕ × Dir)). length (unvouched records plan l)) (here_tried dirs plan.pruned path dir found open_)
    ∙ by (is_vouched records path (time_of dir.times) (plan.device_of path)) ∙ ap (λ (t : Moment). if is_vouched records path t (plan.device_of path) then 0 else 1) (sym at)
  where
    by : (b : Bool) → length (cond (not b) (one path dir) []) ≡ (if b then 0 else 1)
    by true = refl
    by false = refl

pub opens_none : (records : List Record) (dirs : Dirs) (plan : Plan) (path : List ℕ) → Nothing dirs plan.pruned path → opens records dirs plan path ≡ 0
opens_none records dirs plan path n = ap (λ (l : List (List ℕ × Dir)). length (unvouched records plan l)) n.tried

-- nothing was put before the pending paths
pub no_children : (path : List ℕ) (old : List (List ℕ)) → AddsChildren path old old
no_children path old = record { names = []; fitting = record { fit = λ k d h. absurd (omega (arith, h)); rise = refl; few = omega arith }; are = refl }

-- a look-up of a path that is not pruned
pub stat_weight : (pruned priced : List ℕ → Bool) (path : List ℕ) (stats stats' : ℕ) → pruned path ≡ false → stats' ≡ (if priced path then raised stats 1 else stats) → stats' ≤ stats + weight pruned priced (path ∷ [])
stat_weight pruned priced path stats stats' p e = by (pruned path) (priced path) p e
  where
    by : (a b : Bool) → a ≡ false → stats' ≡ (if b then raised stats 1 else stats) → stats' ≤ stats + length (cond (not a && b) (path ∷ []) [])
    by true b q h = absurd (true≢false q)
    by false true q h = omega (arith, h)
    by false false q h = omega (arith, h)

-- that of the root
pub stat_share : (priced : List ℕ → Bool) (path root : List ℕ) (stats stats' : ℕ) → path ≡ root → stats' ≡ (if priced path then raised stats 1 else stats) → stats' ≤ stats + (if priced root then 1 else 0)
stat_share priced path root stats stats' is e = subst (λ (p : List ℕ). stats' ≤ stats + (if priced p then 1 else 0)) is (by (priced path) e)
  where
    by : (b : Bool) → stats' ≡ (if b then raised stats 1 else stats) → stats' ≤ stats + (if b then 1 else 0)
    by true h = omega (arith, h)
    by false h = omega (arith, h)

pub raised_nothing : (n m : ℕ) → n < 2 ^ 64 → m ≡ 0 → n ≡ raised n m
raised_nothing n m small e = omega (arith, small, e)

-- how often a directory that is there and not pruned counts
pub here_once : (dirs : Dirs) (pruned : List ℕ → Bool) (path : List ℕ) (dir : Dir) → get dirs path ≡ Some dir → pruned path ≡ false → length (here dirs (is_tried pruned) path) ≡ 1
here_once dirs pruned path dir found open_ = ap length (here_tried dirs pruned path dir found open_)

-- it has no more names than the limit, where it is opened
pub narrow_one : (records : List Record) (dirs : Dirs) (plan : Plan) (path : List ℕ) (dir : Dir) (time : Moment) (limit : ℕ) → get dirs path ≡ Some dir → plan.pruned path ≡ false → time ≡ time_of dir.times
    → (is_vouched records path time (plan.device_of path) ≡ false → dir.hidden ≡ false → length (entries dir.names) ≤ limit) → Narrow limit (unvouched records plan (here dirs (is_open plan.pruned) path))
narrow_one records dirs plan path dir time limit found open_ at few =
    subst (λ (l : List (List ℕ × Dir)). Narrow limit (unvouched records plan l)) (sym (here_open dirs plan.pruned path dir found open_)) (by dir.hidden refl)
  where
    shown : dir.hidden ≡ false → (v : Bool) → is_vouched records path (time_of dir.times) (plan.device_of path) ≡ v → Narrow limit (cond (not v) (one path dir) [])
    shown is true vouched = λ k d h. absurd (omega (arith, h))
    shown is false vouched = All-cons (λ (e : List ℕ × Dir). length (entries e.1.names) ≤ limit) (path, dir) [] (few (ap (λ (t : Moment). is_vouched records path t (plan.device_of path)) at ∙ vouched) is) (λ k d h. absurd (omega (arith, h)))

    by : (h : Bool) → dir.hidden ≡ h → Narrow limit (unvouched records plan (cond h [] (one path dir)))
    by true is = λ k d h. absurd (omega (arith, h))
    by false is = shown is (is_vouched records path (time_of dir.times) (plan.device_of path)) refl

pub narrow_none : (records : List Record) (dirs : Dirs) (plan : Plan) (path : List ℕ) (limit : ℕ) → Nothing dirs plan.pruned path → Narrow limit (unvouched records plan (here dirs (is_open plan.pruned) path))
narrow_none records dirs plan path limit n = subst (λ (l : List (List ℕ × Dir)). Narrow limit (unvouched records plan l)) (sym n.shown) (λ k d h. absurd (omega (arith, h)))

-- the directory at a path has one time
pub same_time : (dirs : Dirs) (path : List ℕ) (dir there : Dir) (time : Moment) → get dirs path ≡ Some dir → get dirs path ≡ Some there → time ≡ time_of there.times → time_of dir.times ≡ time
same_time dirs path dir there time is found at = ap (λ (d : Dir). time_of d.times) (some_is dir there (sym is ∙ found)) ∙ sym at
