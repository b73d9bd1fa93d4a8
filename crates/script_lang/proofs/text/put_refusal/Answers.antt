use Rattle.std.proofs.Common.{◌∙◌, take, codes, decimal}
use Rattle.script_lang.proofs.TextLemmas.{regroup}
use Rattle.script_lang.proofs.text.put_refusal.Goals as goal

pub returns-in-ImageFull-clause-written : goal.returns-in-ImageFull-clause-written
returns-in-ImageFull-clause-written c =
    rw c.in-ImageFull.is
    (c.put_two.ensures.written ∙ regroup (take c.args.at c.args.buf.now) (codes "E18 image full: fill ") (decimal c.in-ImageFull.fill) (codes " size ") (decimal c.in-ImageFull.size))

pub returns-in-HeapFull-clause-written : goal.returns-in-HeapFull-clause-written
returns-in-HeapFull-clause-written c =
    rw c.in-HeapFull.is
    (c.put_two-in-HeapFull.ensures.written ∙ regroup (take c.args.at c.args.buf.now) (codes "E19 heap full: free ") (decimal c.in-HeapFull.free) (codes " needed ") (decimal c.in-HeapFull.needed))
