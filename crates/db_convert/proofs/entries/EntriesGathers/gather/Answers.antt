use Rattle.std.proofs.Common.{[], ◌∷◌, ◌++◌, sym, ap, ◌∙◌, arith, length-append}
use Rattle.locate02_db.specs.Writer.{WriterState, nothing_put, piece, after_put}
use Rattle.locate02_db.proofs.Encoded.{encode02-push, after_all-push}
use Rattle.db_convert.proofs.entries.EntriesGathers.gather.Goals as goal

pub returns-in-Ok : goal.returns-in-Ok
returns-in-Ok c = record {
  ok = λ paths h.
      let path = c.args.path.now in
      record {
        bytes = c.in-Ok.ensures.ok ∙ (λ i. h.bytes i ++ piece (h.writer i) path) ∙ sym (encode02-push paths path);
        writer = c.in-Ok.ensures.goes_on ∙ ap (λ (w : WriterState). after_put w path) h.writer ∙ sym (after_all-push paths nothing_put path);
        count = omega (arith, c.in-Some.ensures, h.count, length-append paths (path ∷ []));
      };
}
