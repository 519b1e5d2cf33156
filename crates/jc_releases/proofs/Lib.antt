pub mod ReleasesOver
