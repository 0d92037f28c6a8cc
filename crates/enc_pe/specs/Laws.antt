-- What the definitions of this crate mean.
use Rattle.std.specs.Prelude.{◌≡◌, ℕ, ◌<◌, ◌≤◌, ◌⊎◌, true, false, List, [], length, take, Some, None, Ok}
use Rattle.enc_meta.specs.Heaps.{part}
use Rattle.enc_pe.specs.Headers.{headers_of, cli_of}
use Rattle.enc_pe.specs.Container.{image_of, container_of, bytes_at_rva, bytes_from_rva}
use Rattle.enc_pe.specs.declared.cli.CliHeader.{CliHeader}
use Rattle.enc_pe.specs.declared.container.Container.{Container}
use Rattle.enc_pe.specs.declared.headers.Headers.{Headers}

-- the container of an image with these headers: the metadata and the resources stand at the RVAs of the CLI header,
-- no resources are told by the size 0
pub record IsPortableExecutable (bytes : List ℕ) (c : Container) (h : Headers) (cli : CliHeader) : Type 0 where
  pub headers : headers_of bytes ≡ Some h
  pub cli_header : cli_of bytes h ≡ Some cli
  pub metadata : bytes_at_rva bytes c cli.metadata.rva cli.metadata.size ≡ Some (part bytes c.metadata)
  pub resources : ((cli.resources.size ≡ 0) × (part bytes c.resources ≡ []))
      ⊎ (bytes_at_rva bytes c cli.resources.rva cli.resources.size ≡ Some (part bytes c.resources))
  pub entry : c.entry ≡ cli.entry
  pub bare : c.bare ≡ false

-- what was read as an image is one
abbrev pub ImagesAreRead : Type 0
ImagesAreRead = (bytes : List ℕ) (c : Container) → image_of bytes ≡ Ok c
    → (h : Headers) × (cli : CliHeader) × IsPortableExecutable bytes c h cli

-- a bare file has no bytes at any RVA
abbrev pub BareHasNone : Type 0
BareHasNone = (bytes : List ℕ) (c : Container) (first many : ℕ) → container_of bytes ≡ Ok c → c.bare ≡ true
    → (bytes_at_rva bytes c first many ≡ None)
    × (bytes_from_rva bytes c first ≡ None)

-- a range that begins at an RVA and isn't longer than the bytes from there on is their front
abbrev pub RangeIsFront : Type 0
RangeIsFront = (bytes : List ℕ) (c : Container) (first many : ℕ) (rest : List ℕ)
    → bytes_from_rva bytes c first ≡ Some rest → 0 < many → many ≤ length rest
    → bytes_at_rva bytes c first many ≡ Some (take many rest)
