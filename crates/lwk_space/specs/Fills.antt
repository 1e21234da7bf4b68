-- Pages with given bytes, each at the lowest free frame.
use Rattle.hybrid_model.specs.Spaces.{Space, page_at_lowest}
use Rattle.kernel_model.specs.Pages.{page_size, zero_page}
use Rattle.mck_flags.specs.declared.rights.Rights.{Rights}
use Rattle.std.specs.Prelude.{List, drop, replicate, take, ℕ, ◌*◌, ◌++◌, ◌-◌}

-- of the bytes that lie from an address on those in the page, and zeros around them
unfoldable pub placed : ℕ → List ℕ → ℕ → List ℕ
placed start bytes page =
    let low = page * page_size in
    take page_size (replicate (start - low) 0 ++ drop (low - start) bytes ++ zero_page)

unfoldable pub fill_page : Rights → ℕ → List ℕ → ℕ → Space → Space
fill_page rights start bytes page sp = page_at_lowest rights (placed start bytes page) page sp
