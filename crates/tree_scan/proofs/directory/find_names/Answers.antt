use Rattle.std.proofs.Common.{rules, IfSome, ◌≡◌, ◌∙◌, true≢false, subst, sym, [], Ok}
use Rattle.path_order.specs.Stamp.{Moment}
use Rattle.tree_scan.specs.Records.{Vouches, is_vouched, known}
use Rattle.tree_scan.proofs.TreeAnswers.{when_true}
use Rattle.tree_scan.proofs.Asking.{mark_known, none_known, relied_on, vouches_known}
use Rattle.tree_scan.proofs.Visits.{raised_none, raised_some, raised_bound}
use Rattle.tree_scan.proofs.directory.find_names.Goals as goal

pub returns-then-vouched-clause-shown : goal.returns-then-vouched-clause-shown
returns-then-vouched-clause-shown g c = λ dirs dir told found time relied.
    let vouches = when_true c.in-Ok.vouched (IfSome (g.V.Voucher.records c.args.voucher.now) (λ records. Vouches records c.args.path.now c.args.time c.args.device c.vouch.new.into)) (c.vouch.new.into ≡ []) c.if-vouched.true c.in-Ok.ensures.vouches in
    relied_on (g.V.Voucher.records c.args.voucher.now) c.args.device c.args.path.now dir c.vouch.new.into
    (subst (λ (t : Moment). IfSome (g.V.Voucher.records c.args.voucher.now) (λ records. Vouches records c.args.path.now t c.args.device c.vouch.new.into)) time vouches) relied

pub returns-then-vouched-clause-fitting : goal.returns-then-vouched-clause-fitting
returns-then-vouched-clause-fitting g c = λ t. c.in-Ok.ensures.fitting (λ i. Ok (c.if-vouched.true i))

pub returns-then-vouched-clause-exact : goal.returns-then-vouched-clause-exact
returns-then-vouched-clause-exact g c = λ w.
    let vouches = when_true c.in-Ok.vouched (IfSome (g.V.Voucher.records c.args.voucher.now) (λ records. Vouches records c.args.path.now c.args.time c.args.device c.vouch.new.into)) (c.vouch.new.into ≡ []) c.if-vouched.true c.in-Ok.ensures.vouches in
    raised_none (g.T.Tree.openings c.args.tree.now) (is_vouched (known (g.V.Voucher.records c.args.voucher.now)) c.args.path.now c.args.time c.args.device) (g.met.T.Tree.openings_below c.args.tree.now) (vouches_known (g.V.Voucher.records c.args.voucher.now) c.args.path.now c.args.time c.args.device c.vouch.new.into (mark_known _ (g.V.Voucher.ordered c.args.voucher.now) (g.V.Voucher.unbroken c.vouch.new.self) w) vouches)

pub returns-clause-exact : goal.returns-clause-exact
returns-clause-exact g c = λ w.
    raised_some (g.T.Tree.openings c.args.tree.now) (g.T.Tree.openings c.list_names.new.tree) (is_vouched (known (g.V.Voucher.records c.args.voucher.now)) c.args.path.now c.args.time c.args.device)
    (none_known (g.V.Voucher.records c.args.voucher.now) (g.V.Voucher.ordered c.args.voucher.now) (g.V.Voucher.unbroken c.vouch.new.self) c.args.path.now c.args.time c.args.device w (c.in-Ok.ensures.none (λ i. Ok (c.if-vouched.false i)))) c.in_ok-shown.ensures.openings

pub returns-clause-opened : goal.returns-clause-opened
returns-clause-opened g c = λ w.
    raised_bound (g.T.Tree.openings c.args.tree.now) (g.T.Tree.openings c.list_names.new.tree) (is_vouched (known (g.V.Voucher.records c.args.voucher.now)) c.args.path.now c.args.time c.args.device)
    (none_known (g.V.Voucher.records c.args.voucher.now) (g.V.Voucher.ordered c.args.voucher.now) (g.V.Voucher.unbroken c.vouch.new.self) c.args.path.now c.args.time c.args.device w (c.in-Ok.ensures.none (λ i. Ok (c.if-vouched.false i)))) c.in_ok-shown.ensures.openings

pub returns-in_err-shown-clause-opened : goal.returns-in_err-shown-clause-opened
returns-in_err-shown-clause-opened g c = λ w.
    raised_bound (g.T.Tree.openings c.args.tree.now) (g.T.Tree.openings c.list_names.new.tree) (is_vouched (known (g.V.Voucher.records c.args.voucher.now)) c.args.path.now c.args.time c.args.device)
    (none_known (g.V.Voucher.records c.args.voucher.now) (g.V.Voucher.ordered c.args.voucher.now) (g.V.Voucher.unbroken c.vouch.new.self) c.args.path.now c.args.time c.args.device w (c.in-Ok.ensures.none (λ i. Ok (c.if-vouched.false i)))) c.in_err-shown.ensures.openings

pub returns-in_err-shown-clause-many : goal.returns-in_err-shown-clause-many
returns-in_err-shown-clause-many g c = λ e dirs dir told found. c.in_err-shown.ensures.many (search rules) dirs dir told found

pub returns-then-vouched-clause-kept_limit : goal.returns-then-vouched-clause-kept_limit
returns-then-vouched-clause-kept_limit g c = λ some dirs dir told found unvouched shown.
    let vouches = when_true c.in-Ok.vouched (IfSome (g.V.Voucher.records c.args.voucher.now) (λ records. Vouches records c.args.path.now c.args.time c.args.device c.vouch.new.into)) (c.vouch.new.into ≡ []) c.if-vouched.true c.in-Ok.ensures.vouches in
    absurd (true≢false (sym (vouches_known (g.V.Voucher.records c.args.voucher.now) c.args.path.now c.args.time c.args.device c.vouch.new.into some vouches) ∙ unvouched))

pub returns-in_err-shown-clause-listed : goal.returns-in_err-shown-clause-listed
returns-in_err-shown-clause-listed g c = λ e w. none_known (g.V.Voucher.records c.args.voucher.now) (g.V.Voucher.ordered c.args.voucher.now) (g.V.Voucher.unbroken c.vouch.new.self) c.args.path.now c.args.time c.args.device w (c.in-Ok.ensures.none (λ i. Ok (c.if-vouched.false i)))
