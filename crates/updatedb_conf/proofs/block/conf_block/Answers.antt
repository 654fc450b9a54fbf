use Rattle.std.proofs.Common.{◌≡◌, ◌<◌, ◌^◌, ap, ◌∙◌, length, arith}
use Rattle.updatedb_conf.specs.Block.{block, flag_text}
use Rattle.updatedb_conf.proofs.BlockRooms.{block_made, length_block}
use Rattle.updatedb_conf.proofs.block.conf_block.Goals as goal

pub returns-clause-ok : goal.returns-clause-ok
returns-clause-ok c =
    c.from_vec.ensures
    ∙ block_made c.args.conf.now c.flag_digit.result.now c.new-bytes.result.items c.put_value.new.into.items c.put_set.new.into.items c.put_set-2.new.into.items c.put_set-3.new.into.items c.put_margin.new.into.items c.fs.result.now c.names.result.now c.paths.result.now c.margin.result (c.flag_digit.ensures ∙ ap flag_text c.bind.ensures) c.fs.ensures c.names.ensures c.paths.ensures c.margin.ensures c.new-bytes.ensures.items c.in_ok-put_value.ensures c.in_ok-put_set.ensures c.in_ok-put_set-2.ensures c.in_ok-put_set-3.ensures c.in_ok-put_margin.ensures

pub returns-clause-len : goal.returns-clause-len
returns-clause-len c =
    let small : c.args.conf.now.margin < 2 ^ 16 = omega (arith, c.margin.ensures, c.margin.type_inv) in
    omega (arith, ap length (returns-clause-ok c), length_block c.args.conf.now small)
