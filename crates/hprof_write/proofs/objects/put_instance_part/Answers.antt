use Rattle.hprof_write.proofs.ArrayParts.{instance-put}
use Rattle.hprof_write.proofs.objects.put_instance_part.Goals as goal

pub returns : goal.returns
returns c =
    instance-put c.args.out.now.items c.put_u8.new.out.items c.put_words.new.out.items c.extend_from_slice.new.self.items c.args.values.now c.args.at.0 c.args.class
    c.in_ok-put_u8.ensures.appended c.in_ok-put_words.ensures c.in_ok-extend_from_slice.ensures.items
