-- Commands by whether they look beyond their process: a fork, and the count of frames.
use Rattle.std.proofs.Common.{◌≡◌, ℕ, List, None, Some, true, false, ap, refl}
use Rattle.heap_world.specs.declared.command.Verb.{Verb}
use Rattle.heap_world.specs.declared.command.Verb.TheVariants as verb
use Rattle.heap_world.specs.declared.reply.Reply.TheVariants as reply
use Rattle.heap_world.specs.Acts.{act}
use Rattle.heap_world.specs.Isolation.{is_frames}
use Rattle.heap_world.specs.World.{Process, World, fork_if, frame_count, step_process, stepped}
use Rattle.plain_machine.specs.Worlds.{forked_child}

pub fork_steps : (w : World) (line : ℕ) (q : Process) (v : Verb) (child : List ℕ) → forked_child v ≡ Some child → step_process w line q v ≡ fork_if q.part.graph.sealed w line q child
fork_steps w line q (verb.Fork c) child h = let same : c ≡ child = cc in ap (fork_if q.part.graph.sealed w line q) same
fork_steps w line q (verb.Class name parent fields) child h = absurd cc
fork_steps w line q (verb.New root class) child h = absurd cc
fork_steps w line q (verb.Array root kind count) child h = absurd cc
fork_steps w line q (verb.Weak root referent) child h = absurd cc
fork_steps w line q (verb.Set root field value) child h = absurd cc
fork_steps w line q (verb.Put root index value) child h = absurd cc
fork_steps w line q (verb.Get root field) child h = absurd cc
fork_steps w line q (verb.At root index) child h = absurd cc
fork_steps w line q (verb.Copy to from) child h = absurd cc
fork_steps w line q (verb.Load to from field) child h = absurd cc
fork_steps w line q (verb.LoadAt to from index) child h = absurd cc
fork_steps w line q (verb.Drop root) child h = absurd cc
fork_steps w line q (verb.Show root) child h = absurd cc
fork_steps w line q verb.Seal child h = absurd cc
fork_steps w line q verb.Gc child h = absurd cc
fork_steps w line q verb.Exit child h = absurd cc
fork_steps w line q verb.Free child h = absurd cc
fork_steps w line q verb.Pages child h = absurd cc
fork_steps w line q verb.Frames child h = absurd cc
fork_steps w line q verb.Dump child h = absurd cc

pub frames_steps : (w : World) (line : ℕ) (q : Process) (v : Verb) → is_frames v ≡ true → step_process w line q v ≡ record { world = w; reply = reply.Frames (frame_count w); allowed = 16 }
frames_steps w line q verb.Frames h = refl
frames_steps w line q (verb.Class name parent fields) h = absurd cc
frames_steps w line q (verb.New root class) h = absurd cc
frames_steps w line q (verb.Array root kind count) h = absurd cc
frames_steps w line q (verb.Weak root referent) h = absurd cc
frames_steps w line q (verb.Set root field value) h = absurd cc
frames_steps w line q (verb.Put root index value) h = absurd cc
frames_steps w line q (verb.Get root field) h = absurd cc
frames_steps w line q (verb.At root index) h = absurd cc
frames_steps w line q (verb.Copy to from) h = absurd cc
frames_steps w line q (verb.Load to from field) h = absurd cc
frames_steps w line q (verb.LoadAt to from index) h = absurd cc
frames_steps w line q (verb.Drop root) h = absurd cc
frames_steps w line q (verb.Show root) h = absurd cc
frames_steps w line q verb.Seal h = absurd cc
frames_steps w line q verb.Gc h = absurd cc
frames_steps w line q verb.Exit h = absurd cc
frames_steps w line q verb.Free h = absurd cc
frames_steps w line q verb.Pages h = absurd cc
frames_steps w line q (verb.Fork child) h = absurd cc
frames_steps w line q verb.Dump h = absurd cc

pub own_steps : (w : World) (line : ℕ) (q : Process) (v : Verb) → forked_child v ≡ None → is_frames v ≡ false → step_process w line q v ≡ stepped w line q (act q.part v)
own_steps w line q (verb.Class name parent fields) none other = refl
own_steps w line q (verb.New root class) none other = refl
own_steps w line q (verb.Array root kind count) none other = refl
own_steps w line q (verb.Weak root referent) none other = refl
own_steps w line q (verb.Set root field value) none other = refl
own_steps w line q (verb.Put root index value) none other = refl
own_steps w line q (verb.Get root field) none other = refl
own_steps w line q (verb.At root index) none other = refl
own_steps w line q (verb.Copy to from) none other = refl
own_steps w line q (verb.Load to from field) none other = refl
own_steps w line q (verb.LoadAt to from index) none other = refl
own_steps w line q (verb.Drop root) none other = refl
own_steps w line q (verb.Show root) none other = refl
own_steps w line q verb.Seal none other = refl
own_steps w line q verb.Gc none other = refl
own_steps w line q verb.Exit none other = refl
own_steps w line q verb.Free none other = refl
own_steps w line q verb.Pages none other = refl
own_steps w line q verb.Dump none other = refl
own_steps w line q (verb.Fork child) none other = absurd cc
own_steps w line q verb.Frames none other = absurd cc

pub ruleset looking = (fork_steps, frames_steps, own_steps)
