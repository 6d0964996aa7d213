use Rattle.std.proofs.Common.{ℕ, ◌<◌, length, get_or, arith, ap, Vec, Global}
use Rattle.script_json.proofs.Pixels.{shared_picture, no_shared_picture}
use Rattle.script_json.proofs.read.items.picture.Goals as goal

pub returns-in-Ok : goal.returns-in-Ok
returns-in-Ok c =
    let fits : (i : ℕ) → i < length c.args.bytes.items → get_or c.args.bytes.items i 0 < 256 = λ i lt. omega arith in
    shared_picture c.args.rect c.args.bytes.items c.in_ok-pixels.pixels.value.items c.in-Ok.item fits (ap (λ (b : Vec ℕ Global). b.items) c.in_ok-pixels.ensures.ok) c.in-Ok.ensures.0 c.in-Ok.ensures.1

pub returns : goal.returns
returns c =
    no_shared_picture c.args.rect c.args.bytes.items c.in_ok-pixels.pixels.value.items c.in-Err.field-0.cause (ap (λ (b : Vec ℕ Global). b.items) c.in_ok-pixels.ensures.ok) c.in-Err.ensures.1
