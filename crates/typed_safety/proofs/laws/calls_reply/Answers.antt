use Rattle.typed_machine.specs.Replies.{Reply}
use Rattle.typed_safety.proofs.Replying.{call-replies, some-reply}
use Rattle.typed_safety.proofs.laws.calls_reply.Goals as goal

pub returns : goal.returns
returns c = λ image typed live s t next k call.
    some-reply image live s next (Reply k s)
    (call-replies image (c.accepted_runs.ensures image typed) (c.formed_images_tell.ensures image typed.formed) live s t next k call)
