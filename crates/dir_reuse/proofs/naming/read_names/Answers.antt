use Rattle.std.proofs.Common.{◌≡◌, ℕ, List, ◌∷◌, [], ◌++◌, IsTrue, false, refl, sym, ap, subst, ◌∙◌, arith}
use Rattle.std.proofs.lemmas.List.Elements.{All-push}
use Rattle.byte_feed.proofs.Draws.{draws_then}
use Rattle.dir_reuse.proofs.Names.{one_more, last_name, name_fits, names_lost, names_err, names_bad, names_whole, names_refused}
use Rattle.dir_reuse.proofs.Near.{not_past_end, near_err}
use Rattle.path_order.specs.declared.kind.Kind.{Kind}
use Rattle.mlocate_db.specs.Items.{in_directory}
use Rattle.tree_scan.specs.Admitted.{fits_in}
use Rattle.dir_reuse.specs.Usable.{are_usable}
use Rattle.dir_reuse.proofs.naming.read_names.Goals as goal

pub returns-then-not-may_follow-clause-names : goal.returns-then-not-may_follow-clause-names
returns-then-not-may_follow-clause-names g c =
    let e = c.in-Ok-Entry.ensures in
    let inv = c.names.invariant in
    let kind = c.in-Ok-Entry.kind in
    let m = one_more c.args.reader.now c.names.reader c.advance.new.self c.names.into kind _ _ _ _ _ _ _ inv.moved (rw c.in-Ok-Entry.field-0-is at e.step) in
    let name = rw (c.path.ensures.value, c.directory_len.ensures.value) at c.name_in-name.ensures in
    let bad = subst (λ (x : List ℕ). are_usable (c.names.into ++ (x, kind) ∷ []) ≡ false) name (c.if-not-may_follow.ensures kind) in
    names_bad c.args.reader.now c.advance.new.self _ _ _ (rw c.in-Ok-Entry.field-0-is at e.live) (e.stepped.version ∙ inv.version) bad m

pub returns-then-not-may_follow-clause-drawn : goal.returns-then-not-may_follow-clause-drawn
returns-then-not-may_follow-clause-drawn g c = draws_then _ _ _ _ _ _ _ _ _ c.names.invariant.drawn c.in-Ok-Entry.ensures.ahead.drawn

pub names-preserved : goal.names-preserved
names-preserved g c =
    let e = c.in-Ok-Entry.ensures in
    let inv = c.names.invariant in
    let kind = c.in-Ok-Entry.kind in
    let shows = rw c.in-Ok-Entry.field-0-is at e.shows in
    let name = rw (c.path.ensures.value, c.directory_len.ensures.value) at c.name_in-name.ensures in
    let here = rw (shows.dir ∙ inv.dir) at name in
    let joined = rw inv.dir at shows.joined in
    let good = c.if-not-may_follow.ensures kind in
    let m = one_more c.args.reader.now c.names.reader c.advance.new.self c.names.into kind _ _ _ _ _ _ _ inv.moved (rw c.in-Ok-Entry.field-0-is at e.step) in
    let pushed = c.in_ok-push-in-Ok-Entry.ensures.ok in
    record {
      inside = shows.after;
      dir = shows.dir ∙ inv.dir;
      usable = rw pushed good;
      fit = rw pushed (All-push (λ (e : List ℕ × Kind). IsTrue (fits_in c.args.reader.now.path e.0)) c.names.into _ inv.fit (name_fits c.args.reader.now.path c.name_in-name.result.now c.advance.new.self.path (joined ∙ ap (λ (x : List ℕ). in_directory c.args.reader.now.path ++ x) (sym here)) shows.text.fits (last_name c.names.into c.name_in-name.result.now kind good)));
      moved = rw (pushed, name) m;
      version = e.stepped.version ∙ inv.version;
      place = omega (arith, inv.place, (rw c.in-Ok-Entry.field-0-is at e.stepped).grows refl);
      drawn = draws_then _ _ _ _ _ _ _ _ _ inv.drawn e.ahead.drawn;
      faults = omega (arith, inv.faults, e.later);
      kept = g.met.S.Source.keeps_on _ _ _ inv.kept e.kept;
    }

pub returns-in_err-push-in-Ok-Entry-clause-names : goal.returns-in_err-push-in-Ok-Entry-clause-names
returns-in_err-push-in-Ok-Entry-clause-names g c =
    let e = c.in-Ok-Entry.ensures in
    let inv = c.names.invariant in
    let kind = c.in-Ok-Entry.kind in
    let m = one_more c.args.reader.now c.names.reader c.advance.new.self c.names.into kind _ _ _ _ _ _ _ inv.moved (rw c.in-Ok-Entry.field-0-is at e.step) in
    let lost = names_lost c.args.reader.now c.advance.new.self _ _ _ (rw c.in-Ok-Entry.field-0-is at e.live) (e.stepped.version ∙ inv.version) m in
    names_err c.args.reader.now c.advance.new.self _ _ _ _ c.from_residual.ensures.0 lost

pub returns-in_err-push-in-Ok-Entry-clause-drawn : goal.returns-in_err-push-in-Ok-Entry-clause-drawn
returns-in_err-push-in-Ok-Entry-clause-drawn g c = draws_then _ _ _ _ _ _ _ _ _ c.names.invariant.drawn c.in-Ok-Entry.ensures.ahead.drawn

pub returns-in-Ok-EndDirectory-clause-names : goal.returns-in-Ok-EndDirectory-clause-names
returns-in-Ok-EndDirectory-clause-names g c =
    let e = c.in-Ok-EndDirectory.ensures in
    let inv = c.names.invariant in
    names_whole c.args.reader.now c.names.reader c.advance.new.self c.names.into _ _ _ (rw c.in-Ok-EndDirectory.field-0-is at e.live) inv.version e.stepped.version inv.usable inv.moved (rw c.in-Ok-EndDirectory.field-0-is at e.step)

pub returns-in-Ok-EndDirectory-clause-drawn : goal.returns-in-Ok-EndDirectory-clause-drawn
returns-in-Ok-EndDirectory-clause-drawn g c = draws_then _ _ _ _ _ _ _ _ _ c.names.invariant.drawn c.in-Ok-EndDirectory.ensures.ahead.drawn

pub returns-in-Err-clause-names : goal.returns-in-Err-clause-names
returns-in-Err-clause-names g c =
    let e = c.in-Err.ensures in
    rw c.refused_by.ensures (names_refused c.args.reader.now c.names.reader c.advance.new.self c.names.into _ _ _ _ c.in-Err.fault e.live c.names.invariant.moved e.step)

pub returns-in-Err-clause-drawn : goal.returns-in-Err-clause-drawn
returns-in-Err-clause-drawn g c = draws_then _ _ _ _ _ _ _ _ _ c.names.invariant.drawn c.in-Err.ensures.ahead.drawn

pub returns-in_err-push-in-Ok-Entry-clause-near : goal.returns-in_err-push-in-Ok-Entry-clause-near
returns-in_err-push-in-Ok-Entry-clause-near g c =
    let e = c.in-Ok-Entry.ensures in
    let kind = c.in-Ok-Entry.kind in
    let m = one_more c.args.reader.now c.names.reader c.advance.new.self c.names.into kind _ _ _ _ _ _ _ c.names.invariant.moved (rw c.in-Ok-Entry.field-0-is at e.step) in
    near_err c.args.reader.now c.advance.new.self _ _ c.from_residual.ensures.0 (rw c.in-Ok-Entry.field-0-is at e.live) (not_past_end c.args.reader.now c.advance.new.self _ _ _ m)

pub returns-then-not-may_follow-clause-onward : goal.returns-then-not-may_follow-clause-onward
returns-then-not-may_follow-clause-onward g c = omega (arith, c.names.invariant.place, (rw c.in-Ok-Entry.field-0-is at c.in-Ok-Entry.ensures.stepped).grows refl)

pub returns-in_err-push-in-Ok-Entry-clause-onward : goal.returns-in_err-push-in-Ok-Entry-clause-onward
returns-in_err-push-in-Ok-Entry-clause-onward g c = omega (arith, c.names.invariant.place, (rw c.in-Ok-Entry.field-0-is at c.in-Ok-Entry.ensures.stepped).grows refl)

pub returns-in-Ok-EndDirectory-clause-onward : goal.returns-in-Ok-EndDirectory-clause-onward
returns-in-Ok-EndDirectory-clause-onward g c = omega (arith, c.names.invariant.place, (rw c.in-Ok-EndDirectory.field-0-is at c.in-Ok-EndDirectory.ensures.stepped).grows refl)

pub returns-in-Err-clause-onward : goal.returns-in-Err-clause-onward
returns-in-Err-clause-onward g c = omega (arith, c.names.invariant.place, c.in-Err.ensures.stepped.stays refl)
