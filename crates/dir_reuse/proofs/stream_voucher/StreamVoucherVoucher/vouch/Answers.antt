use Rattle.dir_reuse.proofs.Stream.{stream_leaves}
use Rattle.dir_reuse.proofs.stream_voucher.StreamVoucherVoucher.vouch.Goals as goal

pub returns-clause-leaves : goal.returns-clause-leaves
returns-clause-leaves g c = stream_leaves c.args.dir.now c.args.stamp c.args.device c.args.self.now.cursor c.vouch.new.self _ _ c.vouch.result c.vouch.new.into c.vouch.ensures.closed c.vouch.ensures.answers
