pub mod ValidTests
