use Rattle.std.proofs.Common.{refl}
use Rattle.hd_picture.proofs.limits.is_drawable.Goals as goal

pub returns : goal.returns
returns c =
    let corners = rw c.items.ensures at c.are_near.ensures in (
      λ t. record {
        width = c.if-not-is_frame_size.ensures.0 refl;
        height = c.if-not-is_frame_size-2.ensures.0 refl;
        eye = c.if-not-is_point_within.ensures.0 refl;
        corners = corners.0 t;
      },
      λ h. corners.1 h.corners,
    )
